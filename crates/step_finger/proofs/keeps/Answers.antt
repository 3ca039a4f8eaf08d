-- Each of these rules; nothing is said of others. Assumes nothing.
use Rattle.step_finger.proofs.Kept.{keeps_2, keeps_3, keeps_5, keeps_7, keeps_9, keeps_11, keeps_13, keeps_14, not_kept}
use Rattle.step_finger.proofs.keeps.Goals as goal

pub returns-then-r-eq2 : goal.returns-then-r-eq2
returns-then-r-eq2 c = λ e. keeps_2 c.args.r c.if-r-eq2.true

pub returns-then-r-eq3 : goal.returns-then-r-eq3
returns-then-r-eq3 c = λ e. keeps_3 c.args.r c.if-r-eq3.true

pub returns-then-r-eq5 : goal.returns-then-r-eq5
returns-then-r-eq5 c = λ e. keeps_5 c.args.r c.if-r-eq5.true

pub returns-then-r-eq7 : goal.returns-then-r-eq7
returns-then-r-eq7 c = λ e. keeps_7 c.args.r c.if-r-eq7.true

pub returns-then-r-eq9 : goal.returns-then-r-eq9
returns-then-r-eq9 c = λ e. keeps_9 c.args.r c.if-r-eq9.true

pub returns-then-r-eq11 : goal.returns-then-r-eq11
returns-then-r-eq11 c = λ e. keeps_11 c.args.r c.if-r-eq11.true

pub returns-then-r-eq13 : goal.returns-then-r-eq13
returns-then-r-eq13 c = λ e. keeps_13 c.args.r c.if-r-eq13.true

pub returns-then-r-eq14 : goal.returns-then-r-eq14
returns-then-r-eq14 c = λ e. keeps_14 c.args.r c.if-r-eq14.true

pub returns : goal.returns
returns c = λ e. not_kept e
