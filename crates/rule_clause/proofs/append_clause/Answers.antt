-- Piece by piece. Assumes nothing.
use native.Mathlib.Omega.{arith}
use Rattle.mem_words.specs.Words.{words}
use Rattle.rule_build.specs.Built.{then, appended_as}
use Rattle.rule_effects.specs.Effects.{frees}
use Rattle.rule_clause.specs.Opened.{guarded_one_is}
use Rattle.rule_clause.proofs.append_clause.Goals as goal

pub append_two-k1-requires : goal.append_two-k1-requires
append_two-k1-requires c = (record { value = omega arith }, record { value = omega arith })

pub append_word-k2-requires : goal.append_word-k2-requires
append_word-k2-requires c = record { value = omega arith }

pub append_frees-k3-requires : goal.append_frees-k3-requires
append_frees-k3-requires c = c.requires.1

pub append_two-k4-requires : goal.append_two-k4-requires
append_two-k4-requires c = (record { value = omega arith }, record { value = omega arith })

pub append_two-k5-requires : goal.append_two-k5-requires
append_two-k5-requires c = (record { value = omega arith }, record { value = omega arith })

pub overflow_add-j : goal.overflow_add-j
overflow_add-j c = omega (arith, c.count-c.ensures.small, c.count-c.ensures.is, c.requires.0)

pub append_fresh-k6-requires : goal.append_fresh-k6-requires
append_fresh-k6-requires c = c.requires.1

pub append_two-k7-requires : goal.append_two-k7-requires
append_two-k7-requires c = (record { value = omega arith }, record { value = omega arith })

pub append_fresh-k8-requires : goal.append_fresh-k8-requires
append_fresh-k8-requires c = c.requires.1

pub append_word-requires : goal.append_word-requires
append_word-requires c = record { value = omega arith }

pub returns : goal.returns
returns c =
    let W = words c.args.ws.now in
    appended_as _ (guarded_one_is W c.args.j c.args.g c.args.b (frees c.args.next c.args.n)) (then c.append_two-k1.ensures (then c.append_word-k2.ensures (then c.append_frees-k3.ensures (then c.append_two-k4.ensures (then c.append_two-k5.ensures (then c.append_fresh-k6.ensures (then c.append_two-k7.ensures (then c.append_fresh-k8.ensures c.append_word.ensures))))))))
