use Rattle.std.proofs.Common.{ℕ, List, ◌||◌, ◌&&◌, not, Bor, Vec, Global, map, sym, ap, ◌∙◌}
use Rattle.std.proofs.Math.Bool.{or-false}
use Rattle.cv_base.specs.Path.{Path, components, is_above}
use Rattle.cv_overlay.specs.code.Cover.{hides_text}
use Rattle.cv_overlay.specs.Mark.{is_whiteout_name, name_of}
use Rattle.cv_overlay.specs.declared.mark.Mark.TheVariants.{Plain}
use Rattle.cv_overlay.proofs.CoverLemmas.{hides_at, named_whiteout}
use Rattle.cv_overlay.proofs.cover.Covers.add.Goals as goal

pub add_target-requires : goal.add_target-requires
add_target-requires c =
    let parts = ap components c.as_bytes-text.ensures.value ∙ c.text.ensures.parts in
    ap (λ (p : Path). is_whiteout_name (name_of p)) parts
    ∙ named_whiteout c.args.entry.now.path c.is_dir.result (sym c.mark_of.ensures ∙ c.in-Whiteout.is)

pub returns-then-is_dir : goal.returns-then-is_dir
returns-then-is_dir c = λ t.
    let covers = c.args.self.now in
    let found = hides_text (map (λ (w : Vec ℕ Global). w.items) covers.whole.items) (map (λ (b : Bor (List ℕ)). b.now) covers.below.items) covers.all t in
    let e = c.args.entry.now in
    sym (or-false found)
    ∙ ap (λ d. found || (not d && is_above e.path (components t))) (sym c.if-is_dir.true ∙ c.is_dir-in-Plain.ensures)
    ∙ ap (λ h. found || h) (hides_at Plain e c.is_dir.result (components t) (sym c.mark_of.ensures ∙ c.in-Plain.is) c.is_dir.ensures)
