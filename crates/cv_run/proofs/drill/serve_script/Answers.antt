use Rattle.std.proofs.Common.{◌≤◌, ◌^◌, length, refl, ap, ◌∙◌, sym, subst}
use Rattle.cv_io.specs.Memory.{Pieces}
use Rattle.cv_run.proofs.DrillLemmas.{drilled, only_memory}
use Rattle.cv_run.proofs.drill.serve_script.Goals as goal

pub returns-in-Done-clause-ok : goal.returns-in-Done-clause-ok
returns-in-Done-clause-ok g c =
    drilled _ c.args.seed c.new-input.result.bytes c.new-output.result.bytes c.serve.new.output.bytes c.args.desks.now.items c.serve.new.desks.items
    (ap (λ (p : Pieces). p.bytes) c.new-input.ensures ∙ c.requires.script) (ap (λ (p : Pieces). p.bytes) c.new-output.ensures) c.requires.four
    (c.in-Done.ensures.done (λ digest. refl) refl)

pub returns : goal.returns
returns g c =
    let short : length c.new-input.result.bytes ≤ 2 ^ 26 = subst (λ bytes. length bytes ≤ 2 ^ 26) (sym (ap (λ (p : Pieces). p.bytes) c.new-input.ensures)) c.requires.short in
    record {
      ok = tt;
      err = c.status_of.ensures ∙ only_memory c.serve.result c.new-input.result.bytes c.in_default.not-Done short c.serve.ensures.read_fault c.serve.ensures.write_fault c.serve.ensures.input;
    }
