-- By what opens around it. Assumes nothing.
use mathlib.Core.Path.{ap, sym}
use mathlib.Core.Bool.{Bool, true, false, cond}
use Rattle.mem_words.specs.Words.{words}
use Rattle.rule_kinds.specs.Kinds.{or_first}
use Rattle.rule_kinds.proofs.OrLaws.{or_found}
use Rattle.rule_kinds.proofs.of_or_box.Goals as goal

pub returns-then-i-eq0 : goal.returns-then-i-eq0
returns-then-i-eq0 c = or_first (words c.args.ws.now) c.args.i c.if-i-eq0.true

pub opening_of-a-requires : goal.opening_of-a-requires
opening_of-a-requires c = c.requires

pub returns-then-is_kind : goal.returns-then-is_kind
returns-then-is_kind c = or_found (words c.args.ws.now) c.args.i _ _ _ c.if-i-eq0.false c.opening_of-a.ensures.0 c.is_kind.ensures (ap (λ (b : Bool). cond b 8 9) (sym c.if-is_kind.true))

pub returns : goal.returns
returns c = or_found (words c.args.ws.now) c.args.i _ _ _ c.if-i-eq0.false c.opening_of-a.ensures.0 c.is_kind.ensures (ap (λ (b : Bool). cond b 8 9) (sym c.if-is_kind.false))
