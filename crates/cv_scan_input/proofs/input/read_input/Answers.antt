-- The request of the whole is that of the lines after line 1.
use Rattle.cv_scan_input.proofs.Progress.{whole_request}
use Rattle.cv_scan_input.proofs.input.read_input.Goals as goal

pub returns-clause-request : goal.returns-clause-request
returns-clause-request g c =
    whole_request g.I.InputKind.first_of g.I.InputKind.further (g.S.Source.remaining c.args.input.now) c.in_ok-reader.reader _ c.in_ok-first.first c.read_rest.result
    c.in_ok-reader.ensures.value c.in_ok-first.ensures.request c.read_rest.ensures.request
