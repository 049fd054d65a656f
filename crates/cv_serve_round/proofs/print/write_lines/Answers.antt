use Rattle.std.specs.Prelude.{string_bytes}
use Rattle.std.proofs.Common.{subst}
use Rattle.cv_io.specs.Writes.{AppendsPrefix}
use Rattle.cv_serve_round.proofs.Written.{lines_part, on_err_any}
use Rattle.cv_serve_round.proofs.print.write_lines.Goals as goal

pub returns-in_err-write_all-clause-err : goal.returns-in_err-write_all-clause-err
returns-in_err-write_all-clause-err g c =
    on_err_any c.from_residual.result
    (lines_part (λ line. string_bytes line) c.args.lines.now c.loop-line.line-index c.line-item.result _ _ _ c.loop-line-test.true c.line-item.is c.loop-line.invariant.written
    (subst (AppendsPrefix (g.K.Sink.contents c.loop-line.output) (g.K.Sink.contents c.write_all.new.output)) c.as_bytes.ensures.value c.in_err-write_all.ensures.err))
