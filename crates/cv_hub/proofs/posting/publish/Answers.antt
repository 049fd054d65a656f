use Rattle.cv_hub.proofs.posting.publish.Goals as goal

pub published-requires : goal.published-requires
published-requires g c = record {
  post = c.post_of.result;
  pending_is = c.appended-writer.ensures.pending;
  shows = c.post_of.ensures.shows;
  list_is = c.post_of.ensures.list;
  longer = rw c.appended-writer.ensures.desk c.requires.longer;
}
