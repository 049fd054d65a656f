use Rattle.std.specs.Prelude.{◌≡◌, true, drop}
use Rattle.std.proofs.Common.{ap, subst, sym, ◌∙◌}
use Rattle.cv_overlay.specs.Mark.{has_mark}
use Rattle.cv_facts.proofs.TargetLemmas.{memory_alone, target_same}
use Rattle.cv_facts.proofs.hides.target.Goals as goal

pub returns-in-Ok : goal.returns-in-Ok
returns-in-Ok c =
    target_same c.args.path.now c.after_mark.result.now c.in-Ok.target c.requires c.name_of-name.ensures.path
    (λ h. c.after_mark.ensures (subst (λ n. has_mark n ≡ true) (sym c.name_of-name.ensures.name) h) ∙ ap (drop 4) c.name_of-name.ensures.name) c.in-Ok.ensures

pub out_of_memory-requires : goal.out_of_memory-requires
out_of_memory-requires c =
    memory_alone c.args.path.now c.after_mark.result.now c.in-Err.error c.requires c.name_of-name.ensures.path
    (λ h. c.after_mark.ensures (subst (λ n. has_mark n ≡ true) (sym c.name_of-name.ensures.name) h) ∙ ap (drop 4) c.name_of-name.ensures.name) c.in-Err.ensures
