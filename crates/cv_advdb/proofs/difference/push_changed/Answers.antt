use Rattle.std.specs.Prelude.{◌≡◌}
use Rattle.cv_advdb.proofs.Walked.{both_changed}
use Rattle.cv_advdb.proofs.difference.push_changed.Goals as goal

pub returns : goal.returns
returns c = λ lefts rights h k.
    let apart : c.args.one.now ≡ c.args.two.now → ⊥ = λ e. cc (c.if-same.ensures.1 e) in
    rw (c.in_ok-push_names-2.ensures, c.in_ok-push_names.ensures) (both_changed c.args.names.now.items c.args.one.now c.args.two.now lefts rights apart h k)
