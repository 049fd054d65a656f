use Rattle.std.proofs.Common.{sym, ◌∙◌}
use Rattle.cv_facts.proofs.PlacedLemmas.{entry_placed, entry_unplaced}
use Rattle.cv_facts.proofs.ReadLemmas.{no_place, not_summed}
use Rattle.cv_facts.proofs.SealLemmas.{unread_sealed}
use Rattle.cv_facts.proofs.reading.read_entry.Goals as goal

pub entry-requires-clause-given : goal.entry-requires-clause-given
entry-requires-clause-given g c = sym (not_summed c.args.entry.now (sym c.is_read.ensures ∙ c.if-not-is_read.true))

pub returns-then-not-is_read-clause-file : goal.returns-then-not-is_read-clause-file
returns-then-not-is_read-clause-file g c =
    entry_unplaced (g.D.Desk.tree c.args.layer.now) c.args.entry.now (no_place c.args.entry.now (sym c.is_read.ensures ∙ c.if-not-is_read.true))

pub returns-then-not-is_read-clause-seal : goal.returns-then-not-is_read-clause-seal
returns-then-not-is_read-clause-seal g c =
    unread_sealed (g.D.Desk.tree c.args.layer.now) c.args.entry.now c.args.seal.now c.entry.new.self
    (not_summed c.args.entry.now (sym c.is_read.ensures ∙ c.if-not-is_read.true)) c.entry.ensures

pub returns-in_ok-file_found-in-Some-clause-file : goal.returns-in_ok-file_found-in-Some-clause-file
returns-in_ok-file_found-in-Some-clause-file g c =
    entry_placed (g.D.Desk.tree c.args.layer.now) c.args.entry.now c.in-Some.place c.in_ok-read.read c.content_of.result c.in_ok-file_found-in-Some.field-0 (sym c.in-Some.ensures) c.in_ok-read.ensures.file
    c.content_of.ensures c.in_ok-file_found-in-Some.ensures
