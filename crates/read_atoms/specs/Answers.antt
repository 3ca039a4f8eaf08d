-- What reading a simple statement leaves: from the words that were written to the answer. Assumes nothing.
use Rattle.std.specs.Prelude.{◌≡◌, refl, Result, Ok, Err, List, map, Bool, true, false, not, ℕ, ◌+◌, ◌*◌, ◌<◌, ◌≤◌, length, take}
use Rattle.std.proofs.Common.{ap, sym, ◌∙◌, subst, inl, inr, arith}
use Rattle.std.proofs.Math.Option.{Option, some, none}
use Rattle.akl.specs.Base.{Name, once, size, if}
use Rattle.akl.specs.Token.{Token}
use Rattle.akl.specs.Grammar.{Simple}
use Rattle.akl.specs.Reader.{variable_of, not_bound, unbound, simple_faults, simple_free, simple_of}
use Rattle.mem_words.specs.declared.Word.{Word}
use Rattle.layout.specs.Layout.{stmt_words}
use Rattle.descent.specs.Descent.{the_simple}
use Rattle.read_phrases.specs.Codes.{toks}
use Rattle.read_phrases.specs.Phrases.{Reserved}
use Rattle.read_emits.specs.Out.{wrote_same}
use Rattle.read_varwords.specs.Vars.{Spells}
use Rattle.read_varwords.specs.declared.Vars.{Vars}
use Rattle.read_varwords.specs.declared.Unwritten.{Unwritten}
use Rattle.read_varwords.specs.declared.Unwritten.TheVariants.{Many, Full}
use Rattle.read_pieces.specs.Worst.{Lowest, Lower}
use Rattle.read_pieces.specs.Effect.{Numbered}
use Rattle.read_pieces.specs.Reads.{a_simple, Spelling, Scope, CanRead, Finished, ReadTo, around, heads, bound}
use Rattle.read_pieces.specs.declared.Read.{Read}
use Rattle.read_pieces.specs.declared.Read.TheVariants as read
use Rattle.read_laid.specs.Parts.{Lay, Part, TooMany, PartTo, Parted}

-- the refusal of an atom: `low`, or 6 if that is lower and a variable is not bound
abbrev pub FaultOf : Bool → ℕ → ℕ → Type 0
FaultOf true low f = Lower low 6 f
FaultOf false low f = f ≡ low

-- the answer for words that were written
abbrev pub AnswerTo : Result Vars Unwritten → ℕ → ℕ → Read → Type 0
AnswerTo (Ok v) rest low r = (f : ℕ) × (r ≡ read.Done rest v.out v.known f) × FaultOf v.free low f
AnswerTo (Err Many) rest low r = r ≡ read.Three
AnswerTo (Err Full) rest low r = r ≡ read.Full

-- the simple statement at `at`: its n words `lay`, its variables `is`, and its refusals, 6 apart
pub record Subject (query : Bool) (L B D : List ℕ) (at rest n : ℕ) (is : List ℕ) (lay : Lay) (low depth : ℕ) : Type 0 where
  pub tree : (ℕ → Name) → Simple
  pub forward : at ≤ rest
  pub inside : rest ≤ length L
  pub few : n + 4 * at + 8 ≤ 4 * rest + 7
  pub reads : (w : ℕ → Name) → Reserved w L → the_simple (toks w L at) ≡ some (tree w, toks w L rest)
  pub free : (w : ℕ → Name) (bs : List Name) → simple_free (tree w) bs ≡ not_bound bs (map w is)
  pub laid : (w : ℕ → Name) (num : Name → ℕ) (qs bs : List Name) (r : List Word) → lay w num (variable_of qs bs) r ≡ stmt_words num (simple_of (tree w) qs bs) r
  pub faults : (w : ℕ → Name) (num : Name → ℕ) (bs : List Name) → Spelling w num (length B) → (b : Bool) (f : ℕ) → b ≡ unbound (bound query bs) (map w is) → FaultOf b low f → Lowest f (simple_faults (tree w) (around query (heads w D) bs depth))

-- ---------------------------------------------------------------------------------------------
-- Laws.

pub spells : {w : ℕ → Name} {num : Name → ℕ} {B E : List ℕ} {level : ℕ} → Spelling w num (length B) → Scope B E level → Spells w B E
spells {w} {num} s c = record { bound = c.bound; inner = c.below; apart = λ i j h g e. sym (s.back i h) ∙ ap num e ∙ s.back j g }

-- the tree that is read is the one
pub one_tree : (w : ℕ → Name) (L : List ℕ) (at rest : ℕ) (x t : Simple) (us : List Token) → the_simple (toks w L at) ≡ some (x, toks w L rest) → the_simple (toks w L at) ≡ some (t, us) → x ≡ t
one_tree w L at rest x t us a b = ap (λ (o : Option (Simple × List Token)). elim o as (λ z. Simple) [ some p ↦ p.0 | none ↦ x ]) (sym a ∙ b)

module _ {query : Bool} {L B S Q D : List ℕ} {O : List Word} {at k q level : ℕ} (depth : ℕ) (can : CanRead L B S Q D O at k q level) {rest n : ℕ} {is : List ℕ} {lay : Lay} {low : ℕ} (s : Subject query L B D at rest n is lay low depth) where
  pub finished : {O' : List Word} {Q' : List ℕ} {k' q' f : ℕ} {free : Bool} → Part n is lay O k B Q q query O' Q' k' q' free → FaultOf free low f → Finished a_simple query L B S Q D O at k q level depth B S Q' O' rest k' q' f
  finished {O'} {Q'} {k'} {q'} {f} {free} a g =
      record {
        forward = s.forward;
        inside = s.inside;
        more = a.more;
        most = a.few;
        used = a.known.each;
        few = omega (arith, s.few, a.at);
        out = a.inside;
        long_o = a.long;
        cells = refl;
        saves = λ i h. refl;
        long_s = refl;
        long_q = a.long_q;
        says = λ w num E r sp sc.
            let p = a.says w num E sp (spells sp sc) in (
              s.tree w,
              s.reads w r,
              record {
                fault = s.faults w num (map w E) sp free f p.unbound g;
                names = subst (λ (l : List Name). Numbered query (map w (take q Q)) l (map w (take q' Q'))) (sym (s.free w (map w E))) p.names;
                words = λ qs h. wrote_same (s.laid w num qs (map w E)) (p.words qs h);
              },
            );
      }

  pub too_many : (Q' : List ℕ) (O' : List Word) → TooMany is B Q q query → ReadTo a_simple query L B S Q D O at k q level depth B S Q' O' read.Three
  too_many Q' O' a w num E r sp sc t us e = inr (a.asks, subst (λ (l : List Name). 16 < size (once (map w (take q Q)) l)) (sym (s.free w (map w E)) ∙ ap (λ (x : Simple). simple_free x (map w E)) (one_tree w L at rest (s.tree w) t us (s.reads w r) e)) (a.many w num E sp (spells sp sc)))

  pub no_room : length O < k + n → length O + 4 * at < k + 4 * length L + 7
  no_room h = omega (arith, s.few, s.inside)

  pub read_to : {O' : List Word} {Q' : List ℕ} (v : Result Vars Unwritten) → Parted n is lay O k B Q q query O' Q' v → (r : Read) → AnswerTo v rest low r → ReadTo a_simple query L B S Q D O at k q level depth B S Q' O' r
  read_to {O'} {Q'} v a r g = go v a.to g
    where
      go : (v : Result Vars Unwritten) → PartTo n is lay O k B Q q query O' Q' v → AnswerTo v rest low r → ReadTo a_simple query L B S Q D O at k q level depth B S Q' O' r
      go (Ok v) a g = subst (ReadTo a_simple query L B S Q D O at k q level depth B S Q' O') (sym g.1) (finished a g.2)
      go (Err Many) a g = subst (ReadTo a_simple query L B S Q D O at k q level depth B S Q' O') (sym g) (too_many Q' O' a)
      go (Err Full) a g = subst (ReadTo a_simple query L B S Q D O at k q level depth B S Q' O') (sym g) (inl (no_room a))

-- the answer, case by case
pub answered : {v : Result Vars Unwritten} {u : Vars} (rest low f : ℕ) → v ≡ Ok u → FaultOf u.free low f → AnswerTo v rest low (read.Done rest u.out u.known f)
answered {v} {u} rest low f e g = subst (λ (v : Result Vars Unwritten). AnswerTo v rest low (read.Done rest u.out u.known f)) (sym e) (f, refl, g)

pub answered_many : {v : Result Vars Unwritten} (rest low : ℕ) → v ≡ Err Many → AnswerTo v rest low read.Three
answered_many {v} rest low e = subst (λ (v : Result Vars Unwritten). AnswerTo v rest low read.Three) (sym e) refl

pub answered_full : {v : Result Vars Unwritten} (rest low : ℕ) → v ≡ Err Full → AnswerTo v rest low read.Full
answered_full {v} rest low e = subst (λ (v : Result Vars Unwritten). AnswerTo v rest low read.Full) (sym e) refl

pub fault_free : {b : Bool} (low : ℕ) {f : ℕ} → b ≡ true → Lower low 6 f → FaultOf b low f
fault_free {b} low {f} e g = subst (λ (b : Bool). FaultOf b low f) (sym e) g

pub fault_bound : {b : Bool} (low : ℕ) → b ≡ false → FaultOf b low low
fault_bound {b} low e = subst (λ (b : Bool). FaultOf b low low) (sym e) refl
