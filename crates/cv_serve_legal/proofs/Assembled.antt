-- Parts of the entries of a round, which answer its requests lane after lane and claim each layer that is Queued, are with the
-- refused lines a legal round.
use Rattle.std.specs.Prelude.{◌≡◌, ⊤, ℕ, zero, suc, ◌+◌, ◌<◌, ◌≤◌, ◌==◌, ◌&&◌, ◌⊎◌, Bool, true, false, cond, List, [], ◌∷◌, ◌++◌, filter_map, find, map, Option, Some, None, Result, Ok, Err, option_map, refl}
use Rattle.std.specs.List.{AllByRecursion, AllZip, cons_option}
use Rattle.std.proofs.Common.{ap, arith, inl, inr, subst, sym, ◌∙◌}
use Rattle.std.proofs.lemmas.Bool.{and_from, and_left, cases_eq, cases_lt, eq-eqb, eqb-true, ne_eqb}
use Rattle.std.proofs.lemmas.List.{append-nil}
use Rattle.std.proofs.lemmas.List.Elements.{filter-append}
use Rattle.cv_base.specs.Lines.{Line}
use Rattle.cv_base.proofs.AllItems.{all_both, all_weaker}
use Rattle.cv_core_records.specs.declared.event.By.{By}
use Rattle.cv_core_records.specs.declared.event.By.TheVariants as by
use Rattle.cv_core_records.specs.declared.read.ReadEntry.{ReadEntry}
use Rattle.cv_request.specs.declared.error.RequestError.{RequestError}
use Rattle.cv_request.specs.declared.request.Request.{Request}
use Rattle.cv_transcript.specs.declared.entry.Entry.{Entry}
use Rattle.cv_transcript.specs.declared.entry.Entry.TheVariants as entry
use Rattle.cv_core_machine.specs.Layers.{queued}
use Rattle.cv_core_machine.specs.Scans.{Trees}
use Rattle.cv_serve_legal.specs.Parts.{line_by, lines_answered, times}
use Rattle.cv_serve_legal.specs.Replay.{Moment}
use Rattle.cv_serve_legal.specs.Round.{AreReadsOrdered, IsLegalRound, StandsBefore}
use Rattle.cv_serve_legal.specs.ParsedLine.{IsTaken, lines_requested, refusals, request_at, requests}
use Rattle.cv_serve_legal.specs.code.Segment.{Address, IsFound, Segment, address_by, address_in, address_of, lane_requests, lanes_from}
use Rattle.cv_serve_legal.specs.Served.{LinesAscend}
use Rattle.cv_serve_legal.specs.declared.parsed_line.Requested.{Requested}
use Rattle.cv_serve_legal.specs.declared.parsed_line.ParsedLine.{ParsedLine}
use Rattle.cv_serve_legal.proofs.Segments.{two_same}

-- ---- what holds of all items of a list

all_cond : {X : Type 0} (P : X → Type 0) (b : Bool) (x : X) (xs : List X) → (b ≡ true → P x) → AllByRecursion P xs → AllByRecursion P (cond b (x ∷ xs) xs)
all_cond P true x xs h k = (h refl, k)
all_cond P false x xs h k = k

-- ---- the requests of ascending lines ascend

-- one request's line is below another's
abbrev Below : Requested → Requested → Type 0
Below first second = first.line < second.line

-- requests on ascending lines
abbrev pub RequestsAscend : List Requested → Type 0
RequestsAscend [] = ⊤
RequestsAscend (r ∷ rs) = AllByRecursion (Below r) rs × RequestsAscend rs

-- of lines above a number, and what became of them
taken_above : (number : ℕ) (lines : List Line) (taken : List ParsedLine) → AllZip IsTaken lines taken → AllByRecursion (λ line. number < line.number) lines
    → AllByRecursion (λ r. number < r.line) (requests taken)
taken_above number [] [] h k = tt
taken_above number [] (t ∷ taken) h k = absurd h
taken_above number (line ∷ lines) [] h k = absurd h
taken_above number (line ∷ lines) (t ∷ taken) h k = by_answer t.answer (taken_above number lines taken h.1 k.1) where
  by_answer : (answer : Result Request RequestError) → AllByRecursion (λ r. number < r.line) (requests taken)
      → AllByRecursion (λ r. number < r.line) (cons_option (request_at t.line answer) (requests taken))
  by_answer (Ok request) rest = (let low = k.0 in let same = h.0.number in omega (arith, low, same), rest)
  by_answer (Err error) rest = rest

-- what became of ascending lines
pub requests_ascend : (lines : List Line) (last : ℕ) (taken : List ParsedLine) → AllZip IsTaken lines taken → LinesAscend lines last → RequestsAscend (requests taken)
requests_ascend [] last [] h k = tt
requests_ascend [] last (t ∷ taken) h k = absurd h
requests_ascend (line ∷ lines) last [] h k = absurd h
requests_ascend (line ∷ lines) last (t ∷ taken) h k = by_answer t.answer (requests_ascend lines last taken h.1 k.1.1) where
  higher : AllByRecursion (λ r. t.line < r.line) (requests taken)
  higher = subst (λ n. AllByRecursion (λ r. n < r.line) (requests taken)) (sym h.0.number) (taken_above line.number lines taken h.1 k.1.0)

  by_answer : (answer : Result Request RequestError) → RequestsAscend (requests taken) → RequestsAscend (cons_option (request_at t.line answer) (requests taken))
  by_answer (Ok request) rest = (higher, rest)
  by_answer (Err error) rest = rest

-- ---- each request is found by its lane and its line

-- the first request is found
found_first : (first : Requested) (rest : List Requested) → IsFound (first ∷ rest) first
found_first first rest =
    let same : (first.line == first.line && first.request.lane == first.request.lane) ≡ true =
    and_from _ _ (eq-eqb first.line first.line refl) (eq-eqb first.request.lane first.request.lane refl) in
    ap (λ b. option_map (λ (r : Requested). r.request.act) (cond b (Some first) (find (λ (r : Requested). r.line == first.line && r.request.lane == first.request.lane) rest))) same

-- a request on a later line is found after the first
found_next : (first : Requested) (rest : List Requested) (r : Requested) → Below first r → IsFound rest r → IsFound (first ∷ rest) r
found_next first rest r low found =
    let other : (first.line == r.line && first.request.lane == r.request.lane) ≡ false =
    and_left _ _ (ne_eqb first.line r.line (λ same. omega (arith, low, same))) in
    ap (λ b. option_map (λ (x : Requested). x.request.act) (cond b (Some first) (find (λ (x : Requested). x.line == r.line && x.request.lane == r.request.lane) rest))) other ∙ found

found_after : (first : Requested) (rest some : List Requested) → AllByRecursion (Below first) some → AllByRecursion (IsFound rest) some
    → AllByRecursion (IsFound (first ∷ rest)) some
found_after first rest [] low found = tt
found_after first rest (r ∷ some) low found = (found_next first rest r low.0 found.0, found_after first rest some low.1 found.1)

pub all_found : (requested : List Requested) → RequestsAscend requested → AllByRecursion (IsFound requested) requested
all_found [] h = tt
all_found (first ∷ rest) h = (found_first first rest, found_after first rest rest h.0 (all_found rest h.1))

-- ---- lanes, one after the other

-- what holds of all requests holds of those of a lane
pub in_lane : (P : Requested → Type 0) (lane : ℕ) (requested : List Requested) → AllByRecursion P requested → AllByRecursion P (lane_requests lane requested)
in_lane P lane [] h = tt
in_lane P lane (r ∷ requested) h = all_cond P (r.request.lane == lane) r (lane_requests lane requested) (λ same. h.0) (in_lane P lane requested h.1)

-- and of those of several lanes
in_lanes : (P : Requested → Type 0) (lane count : ℕ) (requested : List Requested) → AllByRecursion P requested → AllByRecursion P (lanes_from lane count requested)
in_lanes P lane zero requested h = tt
in_lanes P lane (suc count) requested h =
    all_both P (lane_requests lane requested) (lanes_from (lane + 1) count requested) (in_lane P lane requested h) (in_lanes P (lane + 1) count requested h)

-- the requests of a lane are of it
pub of_lane : (lane : ℕ) (requested : List Requested) → AllByRecursion (λ r. r.request.lane ≡ lane) (lane_requests lane requested)
of_lane lane [] = tt
of_lane lane (r ∷ requested) =
    all_cond (λ (x : Requested). x.request.lane ≡ lane) (r.request.lane == lane) r (lane_requests lane requested) (eqb-true r.request.lane lane) (of_lane lane requested)

-- those of lanes from one on are of no lower lane
of_lanes : (lane count : ℕ) (requested : List Requested) → AllByRecursion (λ r. lane ≤ r.request.lane) (lanes_from lane count requested)
of_lanes lane zero requested = tt
of_lanes lane (suc count) requested =
    all_both (λ (r : Requested). lane ≤ r.request.lane) (lane_requests lane requested) (lanes_from (lane + 1) count requested)
    (all_weaker (λ (r : Requested). r.request.lane ≡ lane) (λ (r : Requested). lane ≤ r.request.lane) (lane_requests lane requested) (λ r same. omega (arith, same)) (of_lane lane requested))
    (all_weaker (λ (r : Requested). lane + 1 ≤ r.request.lane) (λ (r : Requested). lane ≤ r.request.lane) (lanes_from (lane + 1) count requested) (λ r most. omega (arith, most)) (of_lanes (lane + 1) count requested))

-- ---- their order

-- of two requests the first is of the lower lane, or of the same lane on the lower line
abbrev Precedes : Requested → Requested → Type 0
Precedes first second =
    (first.request.lane < second.request.lane) ⊎ ((first.request.lane ≡ second.request.lane) × (first.line < second.line))

abbrev InOrder : List Requested → Type 0
InOrder [] = ⊤
InOrder (r ∷ rs) = AllByRecursion (Precedes r) rs × InOrder rs

order_both : (xs ys : List Requested) → InOrder xs → InOrder ys → AllByRecursion (λ x. AllByRecursion (Precedes x) ys) xs → InOrder (xs ++ ys)
order_both [] ys h k all = k
order_both (x ∷ xs) ys h k all = (all_both (Precedes x) xs ys h.0 all.0, order_both xs ys h.1 k all.1)

-- requests of one lane that ascend
order_lane : (lane : ℕ) (xs : List Requested) → AllByRecursion (λ r. r.request.lane ≡ lane) xs → RequestsAscend xs → InOrder xs
order_lane lane [] h ascend = tt
order_lane lane (x ∷ xs) h ascend = (after xs h.1 ascend.0, order_lane lane xs h.1 ascend.1) where
  after : (rs : List Requested) → AllByRecursion (λ r. r.request.lane ≡ lane) rs → AllByRecursion (Below x) rs → AllByRecursion (Precedes x) rs
  after [] same low = tt
  after (r ∷ rs) same low = (inr (h.0 ∙ sym same.0, low.0), after rs same.1 low.1)

-- ascending requests without some of them
rise_cond : (b : Bool) (x : Requested) (xs : List Requested) → AllByRecursion (Below x) xs → RequestsAscend xs → RequestsAscend (cond b (x ∷ xs) xs)
rise_cond true x xs h k = (h, k)
rise_cond false x xs h k = k

pub rise_lane : (lane : ℕ) (requested : List Requested) → RequestsAscend requested → RequestsAscend (lane_requests lane requested)
rise_lane lane [] h = tt
rise_lane lane (r ∷ requested) h =
    rise_cond (r.request.lane == lane) r (lane_requests lane requested) (in_lane (Below r) lane requested h.0) (rise_lane lane requested h.1)

order_lanes : (lane count : ℕ) (requested : List Requested) → RequestsAscend requested → InOrder (lanes_from lane count requested)
order_lanes lane zero requested ascend = tt
order_lanes lane (suc count) requested ascend =
    order_both (lane_requests lane requested) (lanes_from (lane + 1) count requested)
    (order_lane lane (lane_requests lane requested) (of_lane lane requested) (rise_lane lane requested ascend))
    (order_lanes (lane + 1) count requested ascend)
    (all_weaker (λ (r : Requested). r.request.lane ≡ lane) (λ (r : Requested). AllByRecursion (Precedes r) (lanes_from (lane + 1) count requested)) (lane_requests lane requested)
    (λ r same. all_weaker (λ (x : Requested). lane + 1 ≤ x.request.lane) (Precedes r) (lanes_from (lane + 1) count requested) (λ x most. inl (omega (arith, same, most))) (of_lanes (lane + 1) count requested))
    (of_lane lane requested))

-- the same of addresses
abbrev Leads : Address → Address → Type 0
Leads first second = (first.lane < second.lane) ⊎ ((first.lane ≡ second.lane) × (first.line < second.line))

abbrev AreLed : List Address → Type 0
AreLed [] = ⊤
AreLed (a ∷ later) = AllByRecursion (Leads a) later × AreLed later

led : (requested : List Requested) → InOrder requested → AreLed (map address_of requested)
led [] h = tt
led (r ∷ rs) h = (after rs h.0, led rs h.1) where
  after : (xs : List Requested) → AllByRecursion (Precedes r) xs → AllByRecursion (Leads (address_of r)) (map address_of xs)
  after [] k = tt
  after (x ∷ xs) k = (k.0, after xs k.1)

-- ---- the order of reads

-- an address that may be there, and then the rest
led_rest : (first : Option Address) (rest : List Address) → AreLed (cons_option first rest) → AreLed rest
led_rest None rest h = h
led_rest (Some a) rest h = h.1

all_rest : (P : Address → Type 0) (first : Option Address) (rest : List Address) → AllByRecursion P (cons_option first rest) → AllByRecursion P rest
all_rest P None rest h = h
all_rest P (Some a) rest h = h.1

abbrev read_address : ReadEntry → Address
read_address read = record { lane = read.lane; line = read.line }

read_stands : (first : ReadEntry) (entries : List Entry) → AllByRecursion (Leads (read_address first)) (filter_map address_in entries)
    → AllByRecursion (StandsBefore (entry.Read first)) entries
read_stands first [] h = tt
read_stands first (entry.Refused line error ∷ entries) h = (tt, read_stands first entries h)
read_stands first (entry.Event event ∷ entries) h =
    (tt, read_stands first entries (all_rest (Leads (read_address first)) (address_by event.by) (filter_map address_in entries) h))
read_stands first (entry.Read second ∷ entries) h = (λ same. h.0, read_stands first entries h.1)

-- before other entries any may stand
others_stand : (first : Entry) (P : (second : Entry) → StandsBefore first second) (entries : List Entry) → AllByRecursion (StandsBefore first) entries
others_stand first P [] = tt
others_stand first P (e ∷ entries) = (P e, others_stand first P entries)

reads_ordered : (entries : List Entry) → AreLed (filter_map address_in entries) → AreReadsOrdered entries
reads_ordered [] h = tt
reads_ordered (entry.Refused line error ∷ entries) h = (others_stand (entry.Refused line error) (λ second. tt) entries, reads_ordered entries h)
reads_ordered (entry.Event event ∷ entries) h =
    (others_stand (entry.Event event) (λ second. tt) entries, reads_ordered entries (led_rest (address_by event.by) (filter_map address_in entries) h))
reads_ordered (entry.Read read ∷ entries) h = (read_stands read entries h.0, reads_ordered entries h.1)

-- ---- the lines of a lane

-- the line of an address, if it is of this lane
abbrev line_of : ℕ → Address → Option ℕ
line_of lane a = cond (a.lane == lane) (Some a.line) None

-- the lines of a lane are those of its addresses
answered : (lane : ℕ) (entries : List Entry) → lines_answered lane entries ≡ filter_map (line_of lane) (filter_map address_in entries)
answered lane [] = refl
answered lane (entry.Refused line error ∷ entries) = answered lane entries
answered lane (entry.Event event ∷ entries) = by_source event.by (answered lane entries) where
  by_source : (source : By) → lines_answered lane entries ≡ filter_map (line_of lane) (filter_map address_in entries)
      → cons_option (line_by lane source) (lines_answered lane entries) ≡ filter_map (line_of lane) (cons_option (address_by source) (filter_map address_in entries))
  by_source (by.Lane other line) same = ap (λ xs. cons_option (cond (other == lane) (Some line) None) xs) same
  by_source (by.Worker worker) same = same
answered lane (entry.Read read ∷ entries) = ap (λ xs. cons_option (cond (read.lane == lane) (Some read.line) None) xs) (answered lane entries)

requested_lines : (lane : ℕ) (requested : List Requested) → filter_map (line_of lane) (map address_of requested) ≡ lines_requested lane requested
requested_lines lane [] = refl
requested_lines lane (r ∷ requested) =
    ap (λ xs. cons_option (cond (r.request.lane == lane) (Some r.line) None) xs) (requested_lines lane requested)
    ∙ by_test (r.request.lane == lane) where
      by_test : (b : Bool)
          → cons_option (cond b (Some r.line) None) (lines_requested lane requested) ≡ map (λ (x : Requested). x.line) (cond b (r ∷ lane_requests lane requested) (lane_requests lane requested))
      by_test true = refl
      by_test false = refl

-- all requests are of the lane
all_kept : (lane : ℕ) (xs : List Requested) → AllByRecursion (λ r. r.request.lane ≡ lane) xs → lane_requests lane xs ≡ xs
all_kept lane [] h = refl
all_kept lane (r ∷ xs) h =
    ap (λ b. cond b (r ∷ lane_requests lane xs) (lane_requests lane xs)) (eq-eqb r.request.lane lane h.0) ∙ ap (λ rest. r ∷ rest) (all_kept lane xs h.1)

-- no request is of the lane
none_kept : (lane : ℕ) (xs : List Requested) → AllByRecursion (λ r. r.request.lane ≡ lane → ⊥) xs → lane_requests lane xs ≡ []
none_kept lane [] h = refl
none_kept lane (r ∷ xs) h =
    ap (λ b. cond b (r ∷ lane_requests lane xs) (lane_requests lane xs)) (ne_eqb r.request.lane lane h.0) ∙ none_kept lane xs h.1

-- the requests of a lane, of those of later lanes
lane_below : (k lane count : ℕ) (requested : List Requested) → k < lane → lane_requests k (lanes_from lane count requested) ≡ []
lane_below k lane count requested low =
    none_kept k (lanes_from lane count requested)
    (all_weaker (λ (r : Requested). lane ≤ r.request.lane) (λ (r : Requested). r.request.lane ≡ k → ⊥) (lanes_from lane count requested) (λ r most same. omega (arith, low, most, same)) (of_lanes lane count requested))

above : (lane k : ℕ) → lane ≤ k → (lane ≡ k → ⊥) → lane + 1 ≤ k
above lane k low other = by_order (cases_lt lane k) where
  by_order : (lane < k) ⊎ (k ≤ lane) → lane + 1 ≤ k
  by_order (inl less) = omega (arith, less)
  by_order (inr most) = absurd (other (omega (arith, low, most)))

-- the requests of a lane, of those of lanes among which it is
lane_within : (k lane count : ℕ) (requested : List Requested) → lane ≤ k → k < lane + count → lane_requests k (lanes_from lane count requested) ≡ lane_requests k requested
lane_within k lane zero requested low high = absurd (omega (arith, low, high))
lane_within k lane (suc count) requested low high =
    filter-append (λ (r : Requested). r.request.lane == k) (lane_requests lane requested) (lanes_from (lane + 1) count requested)
    ∙ by_lane (cases_eq lane k) (λ next. lane_within k (lane + 1) count requested next (omega (arith, high))) where
      by_lane : (lane ≡ k) ⊎ (lane ≡ k → ⊥) → (lane + 1 ≤ k → lane_requests k (lanes_from (lane + 1) count requested) ≡ lane_requests k requested)
          → lane_requests k (lane_requests lane requested) ++ lane_requests k (lanes_from (lane + 1) count requested) ≡ lane_requests k requested
      by_lane (inl same) rest =
          two_same _ (lane_requests k requested) _ []
          (subst (λ n. lane_requests k (lane_requests n requested) ≡ lane_requests k requested) (sym same) (all_kept k (lane_requests k requested) (of_lane k requested)))
          (lane_below k (lane + 1) count requested (omega (arith, same)))
          ∙ append-nil (lane_requests k requested)
      by_lane (inr other) rest =
          two_same _ [] _ (lane_requests k requested)
          (none_kept k (lane_requests lane requested)
          (all_weaker (λ (r : Requested). r.request.lane ≡ lane) (λ (r : Requested). r.request.lane ≡ k → ⊥) (lane_requests lane requested) (λ r here there. other (sym here ∙ there)) (of_lane lane requested)))
          (rest (above lane k low other))

-- lanes above those that there are have no request
lane_above : (k bound : ℕ) (requested : List Requested) → bound ≤ k → AllByRecursion (λ r. r.request.lane < bound) requested → lane_requests k requested ≡ []
lane_above k bound requested high all =
    none_kept k requested (all_weaker (λ (r : Requested). r.request.lane < bound) (λ (r : Requested). r.request.lane ≡ k → ⊥) requested (λ r low same. omega (arith, low, same, high)) all)

every_lane : (k : ℕ) (requested : List Requested) → AllByRecursion (λ r. r.request.lane < 8) requested → lane_requests k (lanes_from 0 8 requested) ≡ lane_requests k requested
every_lane k requested all = by_number (cases_lt k 8) where
  by_number : (k < 8) ⊎ (8 ≤ k) → lane_requests k (lanes_from 0 8 requested) ≡ lane_requests k requested
  by_number (inl low) = lane_within k 0 8 requested (omega arith) (omega (arith, low))
  by_number (inr high) =
      lane_above k 8 (lanes_from 0 8 requested) high (in_lanes (λ (r : Requested). r.request.lane < 8) 0 8 requested all)
      ∙ sym (lane_above k 8 requested high all)

lane_lines : (lane : ℕ) (requested : List Requested) (entries : List Entry) → AllByRecursion (λ r. r.request.lane < 8) requested
    → filter_map address_in entries ≡ map address_of (lanes_from 0 8 requested) → lines_answered lane entries ≡ lines_requested lane requested
lane_lines lane requested entries all same =
    answered lane entries
    ∙ ap (λ addresses. filter_map (line_of lane) addresses) same
    ∙ requested_lines lane (lanes_from 0 8 requested)
    ∙ ap (λ rs. map (λ (r : Requested). r.line) rs) (every_lane lane requested all)

-- ---- the round

pub legal_round : (trees : Trees) (workers : ℕ) (lines : List Line) (last : ℕ) (taken : List ParsedLine) (before : Moment) (entries : List Entry) (after : Moment)
    → AllZip IsTaken lines taken → LinesAscend lines last → AllByRecursion (λ r. r.request.lane < 8) (requests taken)
    → Segment trees workers (lanes_from 0 8 (requests taken)) (queued before.state.layers) before entries after
    → IsLegalRound trees workers before lines (refusals taken ++ entries) after
legal_round trees workers lines last taken before entries after read ascend low h = record {
  taken = taken;
  answers = read;
  others = entries;
  parts = refl;
  replays = h.replays (requests taken) (in_lanes (IsFound (requests taken)) 0 8 (requests taken) (all_found (requests taken) risen));
  ordered = reads_ordered entries (subst (λ addresses. AreLed addresses) (sym h.addresses) (led (lanes_from 0 8 (requests taken)) (order_lanes 0 8 (requests taken) risen)));
  lanes = λ lane. lane_lines lane (requests taken) entries low h.addresses;
  claims = λ layer. ap (λ layers. times layer layers) h.claims;
  claimers = h.claimers;
  works = h.works;
} where
  risen : RequestsAscend (requests taken)
  risen = requests_ascend lines last taken read ascend
