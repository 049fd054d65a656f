use Rattle.cv_notice.proofs.PageLemmas.{page_full, page_not_empty, pages_whole}
use Rattle.cv_notice.proofs.pages.page_laws.Goals as goal

pub returns : goal.returns
returns c = record { whole = pages_whole; full = page_full; not_empty = page_not_empty }
