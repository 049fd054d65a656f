use Rattle.std.proofs.Common.{◌≡◌, take}
use Rattle.cv_notice.proofs.notices.Notices.copy.Given as goal

abbrev pub invariant-loop-notice : goal.invariant-loop-notice
invariant-loop-notice l = l.inner.items ≡ take l.notice-index l.notice-items
