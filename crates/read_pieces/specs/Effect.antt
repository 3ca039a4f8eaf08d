-- What reading a piece of a text leaves: refusals that are due in it, query variables that are new, words that are written.
-- Pieces one after another leave what each leaves, in order. w says what a name's number spells.
use Rattle.std.specs.Prelude.{◌≡◌, refl, List, [], ◌∷◌, ◌++◌, map, Bool, true, false, ℕ, zero, suc, ◌+◌, ◌≤◌, ◌<◌, length, take}
use Rattle.std.proofs.Common.{ap, sym, ◌∙◌, subst, append_assoc, append-nil, arith}
use Rattle.akl.specs.Base.{Name, among, once, if}
use Rattle.mem_words.specs.declared.Word.{Word}
use Rattle.read_emits.specs.Out.{Wrote, wrote_none, wrote_same, wrote_then}
use Rattle.read_pieces.specs.Worst.{Lowest, Lower, lowest_none, lowest_both}

-- the query variables ps so far will be the list qs in the end; a program has none
abbrev pub Final : Bool → List Name → List Name → Type 0
Final true ps qs = (more : List Name) × (qs ≡ ps ++ more)
Final false ps qs = qs ≡ []

-- the query variables are ps, and after free occurrences of xs they are ps'; a program has none
abbrev pub Numbered : Bool → List Name → List Name → List Name → Type 0
Numbered true ps xs ps' = ps' ≡ once ps xs
Numbered false ps xs ps' = ps' ≡ ps

-- refusals fs are due, xs occur free, and the words are those of lay, once the query variables are known
pub record Effect (query : Bool) (ps : List Name) (O : List Word) (k : ℕ) (ps' : List Name) (O' : List Word) (k' : ℕ) (f : ℕ) (fs : List ℕ) (xs : List Name) (lay : List Name → List Word → List Word) : Type 0 where
  pub fault : Lowest f fs
  pub names : Numbered query ps xs ps'
  pub words : (qs : List Name) → Final query ps' qs → Wrote O k O' k' (lay qs)

-- ---------------------------------------------------------------------------------------------
-- Laws.

pub once_append : (ps xs ys : List Name) → once ps (xs ++ ys) ≡ once (once ps xs) ys
unfolding once
once_append ps [] ys = refl
once_append ps (x ∷ xs) ys = once_append (if (among x ps) ps (ps ++ (x ∷ []))) xs ys

-- the variables so far stay in front
pub once_more : (xs ps : List Name) → (more : List Name) × (once ps xs ≡ ps ++ more)
unfolding once
once_more [] ps = ([], sym (append-nil ps))
once_more (x ∷ xs) ps = go (among x ps) (λ qs. once_more xs qs)
  where
    go : (b : Bool) → ((qs : List Name) → (more : List Name) × (once qs xs ≡ qs ++ more)) → (more : List Name) × (once (if b ps (ps ++ (x ∷ []))) xs ≡ ps ++ more)
    go true ih = ih ps
    go false ih = (let q = ih (ps ++ (x ∷ [])) in (x ∷ q.0, q.1 ∙ append_assoc ps (x ∷ []) q.0))

pub final_back : (query : Bool) (ps xs ps' qs : List Name) → Numbered query ps xs ps' → Final query ps' qs → Final query ps qs
final_back true ps xs ps' qs n f = (let m = once_more xs ps in (m.0 ++ f.0, f.1 ∙ ap (λ (l : List Name). l ++ f.0) (n ∙ m.1) ∙ append_assoc ps m.0 f.0))
final_back false ps xs ps' qs n f = f

pub numbered_both : (query : Bool) (ps xs ps' ys ps'' : List Name) → Numbered query ps xs ps' → Numbered query ps' ys ps'' → Numbered query ps (xs ++ ys) ps''
numbered_both true ps xs ps' ys ps'' a b = b ∙ ap (λ (l : List Name). once l ys) a ∙ sym (once_append ps xs ys)
numbered_both false ps xs ps' ys ps'' a b = b ∙ a

numbered_none : (query : Bool) (ps : List Name) → Numbered query ps [] ps
unfolding once
numbered_none true ps = refl
numbered_none false ps = refl

pub effect_none : (query : Bool) (ps : List Name) (O : List Word) (k : ℕ) → k ≤ length O → Effect query ps O k ps O k 8 [] [] (λ qs r. r)
effect_none query ps O k h = record { fault = lowest_none; names = numbered_none query ps; words = λ qs f. wrote_none h }

pub effect_words : (query : Bool) (ps : List Name) (O : List Word) (k : ℕ) (O' : List Word) (k' : ℕ) (g : List Word → List Word) → Wrote O k O' k' g → Effect query ps O k ps O' k' 8 [] [] (λ qs. g)
effect_words query ps O k O' k' g w = record { fault = lowest_none; names = numbered_none query ps; words = λ qs f. w }

pub effect_then : {query : Bool} {ps ps' ps'' : List Name} {O O' O'' : List Word} {k k' k'' f g : ℕ} {fs gs : List ℕ} {xs ys : List Name} {lay lay' : List Name → List Word → List Word} (r : ℕ) → Effect query ps O k ps' O' k' f fs xs lay → Effect query ps' O' k' ps'' O'' k'' g gs ys lay' → Lower f g r → Effect query ps O k ps'' O'' k'' r (fs ++ gs) (xs ++ ys) (λ qs z. lay qs (lay' qs z))
effect_then {query} {ps} {ps'} {ps''} {O} {O'} {O''} {k} {k'} {k''} {f} {g} {fs} {gs} {xs} {ys} r a b l = record {
  fault = lowest_both f g r fs gs a.fault b.fault l;
  names = numbered_both query ps xs ps' ys ps'' a.names b.names;
  words = λ qs h. wrote_then (a.words qs (final_back query ps' ys ps'' qs b.names h)) (b.words qs h);
}

-- the same piece, said in other words
pub effect_same : {query : Bool} {ps ps' : List Name} {O O' : List Word} {k k' f : ℕ} {fs gs : List ℕ} {xs ys : List Name} {lay lay' : List Name → List Word → List Word} → fs ≡ gs → xs ≡ ys → ((qs : List Name) (r : List Word) → lay qs r ≡ lay' qs r) → Effect query ps O k ps' O' k' f fs xs lay → Effect query ps O k ps' O' k' f gs ys lay'
effect_same {query} {ps} {ps'} {f = f} a b c e = record { fault = subst (Lowest f) a e.fault; names = subst (λ (l : List Name). Numbered query ps l ps') b e.names; words = λ qs h. wrote_same (c qs) (e.words qs h) }

-- words written around the piece: before it and into slots, or behind it
pub effect_around : {query : Bool} {ps ps' : List Name} {O₁ O' : List Word} {k₁ k' f : ℕ} {fs : List ℕ} {xs : List Name} {lay : List Name → List Word → List Word} (O O'' : List Word) (k k'' : ℕ) (h : List Word → List Word) → ((g : List Word → List Word) → Wrote O₁ k₁ O' k' g → Wrote O k O'' k'' (λ r. h (g r))) → Effect query ps O₁ k₁ ps' O' k' f fs xs lay → Effect query ps O k ps' O'' k'' f fs xs (λ qs z. h (lay qs z))
effect_around O O'' k k'' h m e = record { fault = e.fault; names = e.names; words = λ qs l. m _ (e.words qs l) }

pub effect_behind : {query : Bool} {ps ps' : List Name} {O O' O'' : List Word} {k k' k'' f : ℕ} {fs : List ℕ} {xs : List Name} {lay : List Name → List Word → List Word} {g : List Word → List Word} → Effect query ps O k ps' O' k' f fs xs lay → Wrote O' k' O'' k'' g → Effect query ps O k ps' O'' k'' f fs xs (λ qs z. lay qs (g z))
effect_behind e w = record { fault = e.fault; names = e.names; words = λ qs l. wrote_then (e.words qs l) w }
