-- The part came back with the words copied. Assumes nothing.
use Rattle.mem_parts.specs.Parts.{cut}
use Rattle.mem_words.specs.Words.{words}
use Rattle.work_log.specs.Logs.{copied_in}
use Rattle.work_log.proofs.copy_in.Goals as goal

pub copy-requires : goal.copy-requires
unfolding cut
copy-requires c = c.requires.2

pub returns : goal.returns
unfolding cut
returns c =
    copied_in c.args.a c.args.e (words c.args.t.now) c.args.from c.args.n c.args.w.now c.copy.new.dst c.requires.0 c.requires.1 c.copy.auto.dst c.copy.ensures
