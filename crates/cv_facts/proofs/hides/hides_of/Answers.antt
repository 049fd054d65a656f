use Rattle.cv_base.specs.Path.{parent_of}
use Rattle.cv_overlay.specs.Mark.{Outline, mark_of, target_of}
use Rattle.cv_facts.specs.Cover.{cover_by, covers, is_opaque, is_whiteout, mark_in, opaque_dirs, place_dir_by, place_dirs, targets}
use Rattle.cv_facts.proofs.HidesLemmas.{found_cons, kept_cons, one_more}
use Rattle.cv_facts.proofs.hides.hides_of.Goals as goal

pub loop-entry-preserved : goal.loop-entry-preserved
loop-entry-preserved c = record {
  whiteouts =
      one_more targets (kept_cons (λ (e : Outline). target_of e.path) (λ (e : Outline). is_whiteout (mark_in e)))
      _ _ _ _ _ _ c.loop-entry-test.true c.entry-item.is c.in_ok-add.ensures.whiteouts c.loop-entry.invariant.whiteouts;
  opaques =
      one_more opaque_dirs (kept_cons (λ (e : Outline). parent_of e.path) (λ (e : Outline). is_opaque (mark_in e)))
      _ _ _ _ _ _ c.loop-entry-test.true c.entry-item.is c.in_ok-add.ensures.opaques c.loop-entry.invariant.opaques;
  covers =
      one_more covers (found_cons (λ (e : Outline). cover_by (mark_of e.path e.is_dir) e.is_dir e.path))
      _ _ _ _ _ _ c.loop-entry-test.true c.entry-item.is c.in_ok-add.ensures.covers c.loop-entry.invariant.covers;
  place_dirs =
      one_more place_dirs (found_cons (λ (e : Outline). place_dir_by (mark_of e.path e.is_dir) e.is_dir e.path))
      _ _ _ _ _ _ c.loop-entry-test.true c.entry-item.is c.in_ok-add.ensures.place_dirs c.loop-entry.invariant.place_dirs;
}
