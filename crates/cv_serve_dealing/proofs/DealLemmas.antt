-- The lines of a round, apart, and the requests of its lanes.
use Rattle.std.specs.Prelude.{◌≡◌, ◌≢◌, ◌⊎◌, ℕ, zero, suc, ◌==◌, ◌+◌, ◌<◌, ◌≤◌, Bool, true, false, cond, List, [], ◌∷◌, ◌++◌, get_or, length, set, take, Option, Some, None, Result, Ok, Err, refl}
use Rattle.std.specs.List.{AllByRecursion, cons_option}
use Rattle.std.proofs.Common.{ap, arith, inl, inr, length-append, subst, sym, ◌∙◌}
use Rattle.std.proofs.Math.Seq.{take-append_seam}
use Rattle.std.proofs.lemmas.Bool.{eq-eqb, ne_eqb}
use Rattle.std.proofs.lemmas.List.{append-nil}
use Rattle.std.proofs.lemmas.List.Elements.{filter-append}
use Rattle.cv_base.proofs.AllItems.{all_kept}
use Rattle.cv_request.specs.Limits.{IsWithinLimits}
use Rattle.cv_request.specs.declared.error.RequestError.{RequestError}
use Rattle.cv_request.specs.declared.request.Request.{Request}
use Rattle.cv_transcript.specs.declared.entry.Entry.{Entry}
use Rattle.cv_transcript.specs.declared.entry.Entry.TheVariants as entry
use Rattle.cv_serve_legal.specs.ParsedLine.{refusal_at, refusals, request_at, requests}
use Rattle.cv_serve_legal.specs.code.Segment.{lane_requests}
use Rattle.cv_serve_legal.specs.declared.parsed_line.Requested.{Requested}
use Rattle.cv_serve_legal.specs.declared.parsed_line.ParsedLine.{ParsedLine}
use Rattle.cv_serve_dealing.specs.Sound.{IsSoundAnswer, IsSoundRequest, IsSoundTaken}
use Rattle.cv_serve_dealing.specs.code.Dealt.{AreDealt, IsDealt, IsGiven, IsLanePrepared, requests_with}
use Rattle.cv_serve_dealing.specs.declared.lane.Lane.{Lane}

cons_both : {X : Type 0} (o : Option X) (xs ys : List X) → cons_option o (xs ++ ys) ≡ cons_option o xs ++ ys
cons_both None xs ys = refl
cons_both (Some x) xs ys = refl

pub low_lanes : (requested : List Requested) → AllByRecursion IsSoundRequest requested → AllByRecursion (λ r. r.request.lane < 8) requested
low_lanes [] h = tt
low_lanes (r ∷ rs) h = (h.0.0, low_lanes rs h.1)

-- ---- the lines of a round, apart

sound_requests : (taken : List ParsedLine) → AllByRecursion IsSoundTaken taken → AllByRecursion IsSoundRequest (requests taken)
sound_requests [] h = tt
sound_requests (t ∷ ts) h = by_answer t.answer h.0 (sound_requests ts h.1) where
  by_answer : (a : Result Request RequestError) → IsSoundAnswer a → AllByRecursion IsSoundRequest (requests ts) → AllByRecursion IsSoundRequest (cons_option (request_at t.line a) (requests ts))
  by_answer (Ok request) s later = (s, later)
  by_answer (Err error) s later = later

pub sound_requested : (taken : List ParsedLine) (requested : List Requested) → AllByRecursion IsSoundTaken taken → requested ≡ requests taken → AllByRecursion IsSoundRequest requested
sound_requested taken requested h is = subst (AllByRecursion IsSoundRequest) (sym is) (sound_requests taken h)

refusals_both : (xs ys : List ParsedLine) → refusals (xs ++ ys) ≡ refusals xs ++ refusals ys
refusals_both [] ys = refl
refusals_both (x ∷ xs) ys = ap (cons_option (refusal_at x.line x.answer)) (refusals_both xs ys) ∙ cons_both (refusal_at x.line x.answer) (refusals xs) (refusals ys)

requests_both : (xs ys : List ParsedLine) → requests (xs ++ ys) ≡ requests xs ++ requests ys
requests_both [] ys = refl
requests_both (x ∷ xs) ys = ap (cons_option (request_at x.line x.answer)) (requests_both xs ys) ∙ cons_both (request_at x.line x.answer) (requests xs) (requests ys)

-- one more line, which is a request
pub one_requested : (taken : List ParsedLine) (t : ParsedLine) (request : Request) (refused : List Entry) (requested all : List Requested) → t.answer ≡ Ok request
    → refused ≡ refusals taken → requested ≡ requests taken → all ≡ requested ++ record { line = t.line; request = request } ∷ []
    → (refused ≡ refusals (taken ++ t ∷ [])) × (all ≡ requests (taken ++ t ∷ []))
one_requested taken t request refused requested all ok refused_is requested_is joined = (
  refused_is ∙ sym (refusals_both taken (t ∷ []) ∙ ap (λ a. refusals taken ++ cons_option (refusal_at t.line a) []) ok ∙ append-nil (refusals taken)),
  joined ∙ ap (λ rs. rs ++ record { line = t.line; request = request } ∷ []) requested_is
      ∙ sym (requests_both taken (t ∷ []) ∙ ap (λ a. requests taken ++ cons_option (request_at t.line a) []) ok),
)

-- one more line, which is refused
pub one_refused : (taken : List ParsedLine) (t : ParsedLine) (error : RequestError) (refused all : List Entry) (requested : List Requested) → t.answer ≡ Err error
    → refused ≡ refusals taken → requested ≡ requests taken → all ≡ refused ++ entry.Refused t.line error ∷ []
    → (all ≡ refusals (taken ++ t ∷ [])) × (requested ≡ requests (taken ++ t ∷ []))
one_refused taken t error refused all requested err refused_is requested_is joined = (
  joined ∙ ap (λ es. es ++ entry.Refused t.line error ∷ []) refused_is
      ∙ sym (refusals_both taken (t ∷ []) ∙ ap (λ a. refusals taken ++ cons_option (refusal_at t.line a) []) err),
  requested_is ∙ sym (requests_both taken (t ∷ []) ∙ ap (λ a. requests taken ++ cons_option (request_at t.line a) []) err ∙ append-nil (requests taken)),
)

-- ---- lanes that were dealt

pub one_longer : {A : Type 0} (xs : List A) (x : A) (ys : List A) (n : ℕ) → length xs ≡ n → ys ≡ xs ++ x ∷ [] → length ys ≡ n + 1
one_longer xs x ys n is joined = let more = length-append xs (x ∷ []) in let all = ap length joined in omega (arith, is, more, all)

dealt_then : (n : ℕ) (requested : List Requested) (lanes : List Lane) (lane : Lane) → AreDealt n requested lanes → IsDealt (n + length lanes) requested lane → AreDealt n requested (lanes ++ lane ∷ [])
dealt_then n requested [] lane h one = (subst (λ (k : ℕ). IsDealt k requested lane) (omega arith) one, tt)
dealt_then n requested (first ∷ lanes) lane h one =
    let at : n + length (first ∷ lanes) ≡ n + 1 + length lanes = omega arith in
    (h.0, dealt_then (n + 1) requested lanes lane h.1 (subst (λ (k : ℕ). IsDealt k requested lane) at one))

-- one more lane was dealt
pub dealt_more : (requested : List Requested) (lanes : List Lane) (lane : Lane) (all : List Lane) (n : ℕ) → length lanes ≡ n → all ≡ lanes ++ lane ∷ [] → AreDealt 0 requested lanes → IsDealt n requested lane
    → AreDealt 0 requested all
dealt_more requested lanes lane all n count joined h one =
    subst (AreDealt 0 requested) (sym joined) (dealt_then 0 requested lanes lane h (subst (λ (k : ℕ). IsDealt k requested lane) (omega (arith, count)) one))

-- ---- a request that is given to its lane

-- a lane with another number is as it was
other_with : (n : ℕ) (requested : List Requested) (one : Requested) → one.request.lane ≢ n → requested ≡ requests_with n requested one
other_with n requested one other = ap (λ b. cond b (requested ++ one ∷ []) requested) (sym (ne_eqb one.request.lane n other))

-- all lanes are as they were if the request is of none of them
pub not_given : (n : ℕ) (one : Requested) (lanes : List Lane) → (one.request.lane < n) ⊎ (n + length lanes ≤ one.request.lane) → IsGiven n one lanes lanes
not_given n one [] outside = tt
not_given n one (lane ∷ lanes) (inl low) =
    (refl, other_with n lane.requested.items one (λ same. omega (arith, low, same)), refl, not_given (n + 1) one lanes (inl (omega (arith, low))))
not_given n one (lane ∷ lanes) (inr high) =
    (refl, other_with n lane.requested.items one (λ same. omega (arith, high, same)), refl, not_given (n + 1) one lanes (inr (omega (arith, high))))

-- a lane gets the request of its number
pub given_at : (n k : ℕ) (one : Requested) (lanes : List Lane) (other new : Lane) → one.request.lane ≡ n + k → k < length lanes → new.number ≡ (get_or lanes k other).number
    → new.requested.items ≡ (get_or lanes k other).requested.items ++ one ∷ [] → new.reads.items ≡ (get_or lanes k other).reads.items → IsGiven n one lanes (set lanes k new)
given_at n k one [] other new is within number requested reads = absurd (omega (arith, within))
given_at n zero one (lane ∷ lanes) other new is within number requested reads =
    let here : one.request.lane ≡ n = omega (arith, is) in (
      number,
      requested ∙ ap (λ b. cond b (lane.requested.items ++ one ∷ []) lane.requested.items) (sym (eq-eqb one.request.lane n here)),
      reads,
      not_given (n + 1) one lanes (inl (omega (arith, here))),
    )
given_at n (suc k) one (lane ∷ lanes) other new is within number requested reads = (
  refl,
  other_with n lane.requested.items one (λ same. omega (arith, is, same)),
  refl,
  given_at (n + 1) k one lanes other new (omega (arith, is)) (omega (arith, within)) number requested reads,
)

-- one more request of a lane, if it is of the lane
requests_more : (n : ℕ) (requested : List Requested) (one : Requested) → lane_requests n (requested ++ one ∷ []) ≡ requests_with n (lane_requests n requested) one
requests_more n requested one = filter-append (λ (r : Requested). r.request.lane == n) requested (one ∷ []) ∙ by_test (one.request.lane == n) where
  by_test : (b : Bool) → lane_requests n requested ++ cond b (one ∷ []) [] ≡ cond b (lane_requests n requested ++ one ∷ []) (lane_requests n requested)
  by_test true = refl
  by_test false = append-nil (lane_requests n requested)

-- lanes that have just some requests have just those and this one
pub given_dealt : (n : ℕ) (requested : List Requested) (one : Requested) (lanes given : List Lane) → AreDealt n requested lanes → IsGiven n one lanes given
    → AreDealt n (requested ++ one ∷ []) given
given_dealt n requested one [] [] h k = tt
given_dealt n requested one [] (g ∷ given) h k = absurd k
given_dealt n requested one (lane ∷ lanes) [] h k = absurd k
given_dealt n requested one (lane ∷ lanes) (g ∷ given) h k = (
  (k.0 ∙ h.0.0, k.1 ∙ (ap (λ rs. requests_with n rs one) h.0.1 ∙ sym (requests_more n requested one)), k.2 ∙ h.0.2),
  given_dealt (n + 1) requested one lanes given h.1 k.3,
)

-- there are no fewer lanes, and no more
pub given_count : (n : ℕ) (one : Requested) (lanes given : List Lane) → IsGiven n one lanes given → length given ≡ length lanes
given_count n one [] [] k = refl
given_count n one [] (g ∷ given) k = absurd k
given_count n one (lane ∷ lanes) [] k = absurd k
given_count n one (lane ∷ lanes) (g ∷ given) k = ap suc (given_count (n + 1) one lanes given k.3)

-- a list that was written back whole
pub written_back : {A : Type 0} (n : ℕ) (xs ys : List A) → n ≡ length xs → take n (xs ++ ys) ≡ xs
written_back n xs ys is = ap (λ k. take k (xs ++ ys)) is ∙ take-append_seam xs ys

-- ---- lanes that can be worked at

within : (requested : List Requested) → AllByRecursion IsSoundRequest requested → AllByRecursion (λ (r : Requested). IsWithinLimits r.request.act) requested
within [] h = tt
within (r ∷ rs) h = (h.0.1, within rs h.1)

-- lanes that were dealt can be worked at
pub dealt_prepared : (n : ℕ) (requested : List Requested) (lanes : List Lane) → AllByRecursion IsSoundRequest requested → AreDealt n requested lanes → AllByRecursion IsLanePrepared lanes
dealt_prepared n requested [] sound h = tt
dealt_prepared n requested (lane ∷ lanes) sound h = (
  record {
    within_limits = subst (AllByRecursion (λ (r : Requested). IsWithinLimits r.request.act)) (sym h.0.1)
        (within (lane_requests n requested) (all_kept IsSoundRequest (λ r. r.request.lane == n) requested sound));
    no_reads = h.0.2;
  },
  dealt_prepared (n + 1) requested lanes sound h.1,
)
