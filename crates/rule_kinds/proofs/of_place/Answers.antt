-- By the kind. Assumes nothing.
use mathlib.Core.Path.{refl}
use Rattle.mem_words.specs.Words.{words}
use Rattle.rule_kinds.specs.Kinds.{kind_found}
use Rattle.rule_kinds.proofs.of_place.Goals as goal

pub of_or_box-requires : goal.of_or_box-requires
of_or_box-requires c = c.requires

pub of_member-requires : goal.of_member-requires
of_member-requires c = c.requires

pub returns-in-Or : goal.returns-in-Or
returns-in-Or c = kind_found c.args.k _ (words c.args.ws.now) c.args.i _ c.in-Or.is c.of_or_box.ensures

pub returns-in-And : goal.returns-in-And
returns-in-And c = kind_found c.args.k _ (words c.args.ws.now) c.args.i _ c.in-And.is (refl)

pub returns-in-Guarded : goal.returns-in-Guarded
returns-in-Guarded c = kind_found c.args.k _ (words c.args.ws.now) c.args.i _ c.in-Guarded.is (refl)

pub returns-in-Member : goal.returns-in-Member
returns-in-Member c = kind_found c.args.k _ (words c.args.ws.now) c.args.i _ c.in-Member.is c.of_member.ensures

pub returns-in-Wait : goal.returns-in-Wait
returns-in-Wait c = kind_found c.args.k _ (words c.args.ws.now) c.args.i _ c.in-Wait.is (refl)

pub returns-in-Cond : goal.returns-in-Cond
returns-in-Cond c = kind_found c.args.k _ (words c.args.ws.now) c.args.i _ c.in-Cond.is (refl)

pub returns-in-Commit : goal.returns-in-Commit
returns-in-Commit c = kind_found c.args.k _ (words c.args.ws.now) c.args.i _ c.in-Commit.is (refl)
