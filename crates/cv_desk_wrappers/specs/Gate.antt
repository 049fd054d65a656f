-- Two desks that wait for each other in their listings (defined by this project, for tests). They share a count of begun
-- listings, and each has a goal for it.
use Rattle.std.specs.Prelude.{ℕ, ◌==◌, Bool, ◌&&◌, nat_lt}

-- such a desk: the inner one, the goal, how many listings were made, and how many of them saw the count reach the goal
pub record Gated (D : Type 0) : Type 0 where
  pub desk : D
  pub goal : ℕ
  pub listings : ℕ
  pub reached : ℕ

-- a desk of this goal that made no listing yet
abbrev pub gated : {D : Type 0} → D → ℕ → Gated D
gated desk goal = record { desk = desk; goal = goal; listings = 0; reached = 0 }

-- the desk made a listing, and each of its listings saw the count reach the goal
abbrev pub has_passed : {D : Type 0} → Gated D → Bool
has_passed desk = nat_lt 0 desk.listings && desk.reached == desk.listings
