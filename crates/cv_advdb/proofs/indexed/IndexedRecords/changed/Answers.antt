use Rattle.std.specs.Prelude.{cond, List}
use Rattle.std.proofs.Common.{ap, ◌∙◌}
use Rattle.cv_base.specs.declared.«package».PackageName.{PackageName}
use Rattle.cv_advdb.specs.Touched.{has_name, records_under}
use Rattle.cv_advdb.specs.code.Changes.{put_together}
use Rattle.cv_advdb.proofs.Patched.{change_indexed}
use Rattle.cv_advdb.proofs.indexed.IndexedRecords.changed.Goals as goal

pub invariant_of-result : goal.invariant_of-result
invariant_of-result c =
    let olds = c.args.self.now in
    let news = c.args.change.news.items in
    let ids = c.args.change.ids.keys in
    change_indexed olds news c.args.change.gone.items c.args.change.all.items ids c.args.touched.now.keys c.in_ok-index.index.entries c.requires.change c.requires.touched
    (λ key. c.in_ok-index.ensures key
    ∙ ap (λ (names : List PackageName). cond (has_name key names) (put_together ids (records_under key olds) (records_under key news)) (records_under key olds)) c.as_slice.ensures)
