use Rattle.std.proofs.Common.{◌≡◌, map, take}
use Rattle.cv_match.specs.code.Entries.{entry_text, prepared_entry}
use Rattle.cv_match.proofs.reading.prepare_entries.Given as goal

abbrev pub invariant-loop-entry : goal.invariant-loop-entry
invariant-loop-entry g l =
    map (entry_text g.V.Version.text) l.prepared.items ≡ map (prepared_entry g.V.Version.kind) (take l.entry-index l.entries)
