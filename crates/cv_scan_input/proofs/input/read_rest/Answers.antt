-- A refused line is the request of the whole, and the last call took within the limit too.
use Rattle.std.specs.Prelude.{Ok}
use Rattle.std.proofs.Common.{◌∙◌, subst}
use Rattle.cv_io.specs.Reader.{Reads, reading}
use Rattle.cv_scan_input.proofs.Progress.{progress_refused, progress_handed}
use Rattle.cv_scan_input.proofs.Taken.{taken_from}
use Rattle.cv_scan_input.proofs.input.read_rest.Goals as goal

pub returns-in_err-records-clause-request : goal.returns-in_err-records-clause-request
returns-in_err-records-clause-request g c =
    let remaining = g.S.Source.remaining in
    let whole = reading c.args.reader (remaining c.args.input.now) in
    let before = reading c.loop-records.reader (remaining c.loop-records.input) in
    let now = reading c.next.new.self (remaining c.next.new.input) in
    let read = subst (λ line. Reads before now (Ok line)) c.in-Text.is c.in_ok-text.ensures.reads in
    let error = c.in_err-records.field-0.0 in
    progress_handed g.I.InputKind.further c.args.first whole error _
    (progress_refused g.I.InputKind.further c.args.first whole before now c.loop-records.records _ c.in-Text.text error c.loop-records.invariant.request read
    (rw (← c.as_slice.ensures, ← c.later.ensures) c.in_err-records.ensures))
    c.from_residual-in_err-records.ensures.1

pub returns-in_err-text-clause-limit : goal.returns-in_err-text-clause-limit
returns-in_err-text-clause-limit g c =
    taken_from c.args.reader.taken c.loop-records.reader c.next.new.self _ _ _ c.next.result c.loop-records.invariant.taken c.next.ensures.step
    (c.next.ensures.max_input ∙ c.loop-records.invariant.inputs)

pub returns-in_err-records-clause-limit : goal.returns-in_err-records-clause-limit
returns-in_err-records-clause-limit g c =
    taken_from c.args.reader.taken c.loop-records.reader c.next.new.self _ _ _ c.next.result c.loop-records.invariant.taken c.next.ensures.step
    (c.next.ensures.max_input ∙ c.loop-records.invariant.inputs)

pub returns-clause-limit : goal.returns-clause-limit
returns-clause-limit g c =
    taken_from c.args.reader.taken c.loop-records.reader c.next.new.self _ _ _ c.next.result c.loop-records.invariant.taken c.next.ensures.step
    (c.next.ensures.max_input ∙ c.loop-records.invariant.inputs)
