use Rattle.std.proofs.Common.{◌≡◌, take}
use Rattle.cv_core_records.specs.Pages.{heads}
use Rattle.cv_notice.proofs.notices.Notices.list.Given as goal

abbrev pub invariant-loop-notice : goal.invariant-loop-notice
invariant-loop-notice l = l.heads.items ≡ heads (take l.notice-index l.notice-items)
