use Rattle.std.proofs.Common.{map}
use Rattle.std.specs.List.{slice_split}
use Rattle.cv_base.specs.Cuts.{is_lf}
use Rattle.cv_stanza.proofs.First.{is_first}
use Rattle.cv_stanza.proofs.Reading.{reading_is}
use Rattle.cv_stanza.proofs.reader.read_blocks.Goals as goal

pub returns-clause-answer : goal.returns-clause-answer
returns-clause-answer g c = rw (← reading_is (g.F.BlockFormat.rules c.args.format.now) (g.F.BlockFormat.steps c.args.format.now) g.F.BlockFormat.kept
    (map g.F.BlockFormat.trimmed (slice_split is_lf c.args.bytes.now)) (g.F.BlockFormat.agrees c.args.format.now)) c.read_all.ensures

pub returns-clause-first : goal.returns-clause-first
returns-clause-first g c = is_first (g.F.BlockFormat.rules c.args.format.now) (map g.F.BlockFormat.trimmed (slice_split is_lf c.args.bytes.now)) (λ items. items.items)
    c.read_all.result (returns-clause-answer g c)
