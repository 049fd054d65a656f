use Rattle.std.proofs.Common.{sym, ◌∙◌, ap}
use Rattle.cv_hub_seats.specs.code.Book.{submission_of}
use Rattle.cv_hub_seats.proofs.Adding.{adds_moves}
use Rattle.cv_hub_seats.proofs.prefix.Prefix.add.Goals as goal

pub compare_exchange-found-requires : goal.compare_exchange-found-requires
compare_exchange-found-requires g c =
    let word = c.args.head.now.word_is in
    let offer = c.plain-offer.ensures in
    let pen = c.no_pen-pen.ensures in
    let seen = c.again-seen.ensures in
    let book = ap (λ s. s.book) seen ∙ (c.self.invariant.book_is ∙ sym (ap (λ w. w.book) word)) in (
      ap (λ w. w.tracked) word,
      book,
      pen.0 ∙ book,
      offer.0,
      rw (ap (λ w. w.key) word, pen.1, offer.1, offer.3, ap (λ s. s.log) seen) (adds_moves c.self.inside.seen.log (submission_of c.args.submitted.now) c.self.inside.number (sym c.self.invariant.length_is)),
    )
