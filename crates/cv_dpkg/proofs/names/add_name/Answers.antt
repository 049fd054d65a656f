use Rattle.std.proofs.Common.{◌≡◌, ◌∙◌, ℕ, List, ap, cond, true}
use Rattle.cv_dpkg.specs.code.Steps.{stood_in, with_name}
use Rattle.cv_dpkg.proofs.SameNames.{same_by_order}
use Rattle.cv_dpkg.proofs.names.add_name.Goals as goal

pub returns-clause-kept : goal.returns-clause-kept
returns-clause-kept c =
    let kept : (q : List ℕ) → stood_in c.insert.new.self q ≡ with_name c.args.name.now (stood_in c.args.names.now) q =
    λ q. c.in_ok-insert.ensures.updates.0 (record { text = record c.args.name { now = q } }) ∙ ap (λ b. cond b true (stood_in c.args.names.now q)) (same_by_order c.args.name.now q) in
    λ i q. kept q i
