-- The definitions, computed on small inputs.
use Rattle.std.specs.Prelude.{◌≡◌, ⊤, ℕ, ◌+◌, ◌<◌, ◌==◌, ◌⊎◌, Bool, false, true, cond, if◌then◌else◌, List, [], ◌∷◌, ◌++◌, codes, filter, length, map, Option, Some, None, Result, Ok, Err, option_map, refl}
use Rattle.std.specs.List.{AllByRecursion, AllZip, cons_option, flat_map, repeat}
use Rattle.std.specs.Fmt.{digits}
use Rattle.std.specs.Str.{chars, is_utf8}
use Rattle.std.proofs.Common.{ap, arith, inl, inr, subst, sym, ◌∙◌}
use Rattle.std.proofs.lemmas.Bool.{eq-eqb}
use Rattle.hex.specs.Hex.{decode_pairs, encode_with}
use Rattle.serde_json.proofs.OnLiterals.{serde_json_on_literals}
use Rattle.cv_base.specs.Answer.{MatchesUnlessOutOfMemory}
use Rattle.cv_base.specs.Lines.{Line}
use Rattle.cv_base.specs.Texts.{same}
use Rattle.cv_base.specs.declared.manifest.Manifest.{Manifest}
use Rattle.cv_io.specs.Lines.{lines_of}
use Rattle.cv_match.specs.Affects.{affects, fixed}
use Rattle.cv_match.specs.Findings.{findings}
use Rattle.cv_packages.specs.Packages.{packages}
use Rattle.cv_core_records.specs.declared.event.Act.{Act}
use Rattle.cv_core_records.specs.declared.event.Act.TheVariants as name
use Rattle.cv_core_records.specs.declared.event.By.{By}
use Rattle.cv_core_records.specs.declared.event.By.TheVariants as by
use Rattle.cv_core_records.specs.declared.event.EventEntry.{EventEntry}
use Rattle.cv_core_records.specs.declared.read.Answer.{Answer}
use Rattle.cv_core_records.specs.declared.read.Answer.TheVariants as answer
use Rattle.cv_core_records.specs.declared.read.ReportOutcome.TheVariants as report
use Rattle.cv_core_records.specs.declared.reply.Reply.{Reply}
use Rattle.cv_core_records.specs.declared.reply.Reply.TheVariants as reply
use Rattle.cv_request.specs.Fault.{fault_of}
use Rattle.cv_request.specs.Manifest.{manifest_of}
use Rattle.cv_request.specs.Request.{act_of, register_of, request_line, request_of}
use Rattle.cv_request.specs.declared.error.RequestError.{RequestError}
use Rattle.cv_request.specs.declared.error.RequestError.TheVariants as error
use Rattle.cv_request.specs.declared.error.RequestFault.TheVariants as fault
use Rattle.cv_request.specs.declared.error.RequestWhat.{RequestWhat}
use Rattle.cv_request.specs.declared.request.Act.{Act as RequestAct}
use Rattle.cv_request.specs.declared.request.Act.TheVariants as request
use Rattle.cv_request.specs.declared.request.Request.{Request}
use Rattle.cv_transcript.specs.Entry.{entry_json, entry_text}
use Rattle.cv_transcript.specs.Line.{line_text}
use Rattle.cv_transcript.specs.Order.{events_of}
use Rattle.cv_transcript.specs.Tag.{entry_tag, tag_of_json}
use Rattle.cv_transcript.specs.declared.entry.Entry.{Entry}
use Rattle.cv_transcript.specs.declared.entry.Entry.TheVariants as entry
use Rattle.cv_scan.specs.Root.{root_entries}
use Rattle.cv_scan.specs.Image.{image_packages}
use Rattle.cv_scan.specs.Scan.{scan}
use Rattle.cv_findings.specs.Rows.{rows_of}
use Rattle.cv_core_machine.specs.Answer.{Read, answer_to, report_of}
use Rattle.cv_core_machine.specs.Answer as reads
use Rattle.cv_core_machine.specs.Layers.{queued}
use Rattle.cv_core_machine.specs.Scans.{Trees}
use Rattle.cv_core_machine.specs.declared.event.MachineEvent.{MachineEvent}
use Rattle.cv_core_machine.specs.declared.event.MachineEvent.TheVariants as whole
use Rattle.cv_serve_legal.specs.Legal.{AreLast, AreLegal, IsLegal, IsLegalFrom}
use Rattle.cv_serve_legal.specs.Parts.{claim_in, claims_of, event_by, events_by, lines_answered, times}
use Rattle.cv_serve_legal.specs.Replay.{Moment, Replays, beginning, moment_after, read_of, submitted}
use Rattle.cv_serve_legal.specs.Round.{AreReadsOrdered, IsLegalRound}
use Rattle.cv_serve_legal.specs.Rounds.{Round, RoundLimits, round_limits, rounds_of}
use Rattle.cv_serve_legal.specs.ParsedLine.{IsTaken, lines_requested, refusal_at, refusals, request_at, requests}
use Rattle.cv_serve_legal.specs.Turns.{ClaimsBelow, FitsWork, Works}
use Rattle.cv_serve_legal.specs.code.Segment.{lane_requests}
use Rattle.cv_serve_legal.specs.Served.{LinesAscend}
use Rattle.cv_serve_legal.specs.Whole.{AreAllRounds, WholeRound, entries_in, whole_round}
use Rattle.cv_serve_legal.specs.declared.parsed_line.Requested.{Requested}
use Rattle.cv_serve_legal.specs.declared.parsed_line.ParsedLine.{ParsedLine}
use Rattle.cv_base.proofs.Same.{same_self}
use Rattle.cv_serve_legal.proofs.Assembled.{RequestsAscend, requests_ascend, rise_lane}

abbrev line : ℕ → List ℕ → Line
line number text = record { number = number; text = text }

-- a round has at most two lines and four bytes
abbrev small : RoundLimits
small = record { lines = 2; bytes = 4 }

-- the limits of the service
limits : round_limits ≡ record { lines = 4096; bytes = 134217728 }
limits = refl

-- an input without bytes has no round, and neither has a line that has not ended, unless the input has
nothing : (rounds_of round_limits [] true ≡ [])
    × (rounds_of round_limits (codes "a") false ≡ [])
    × (rounds_of round_limits (codes "a") true ≡ (line 1 (codes "a") ∷ []) ∷ [])
unfolding lines_of
nothing = (refl, refl, refl)

-- a round that has begun counts only at the end of the input
begun : (rounds_of round_limits (codes "a\n") false ≡ []) × (rounds_of round_limits (codes "a\n") true ≡ (line 1 (codes "a") ∷ []) ∷ [])
unfolding lines_of
begun = (refl, refl)

-- each empty line ends a round, and the second of two ends one without lines; a line of one CR is empty
empties : (rounds_of round_limits (codes "a\n\n\nb\n") true ≡ (line 1 (codes "a") ∷ []) ∷ [] ∷ (line 4 (codes "b") ∷ []) ∷ [])
    × (rounds_of round_limits (codes "a\r\n\r\n") false ≡ (line 1 (codes "a") ∷ []) ∷ [])
    × (rounds_of round_limits (codes "\n") true ≡ [] ∷ [])
unfolding lines_of
empties = (refl, refl, refl)

-- a round ends with its last line, once that has ended, so an empty line after it ends one without lines
full : (rounds_of small (codes "a\nb\nc\n") true ≡ (line 1 (codes "a") ∷ line 2 (codes "b") ∷ []) ∷ (line 3 (codes "c") ∷ []) ∷ [])
    × (rounds_of small (codes "a\nb\n\n") true ≡ (line 1 (codes "a") ∷ line 2 (codes "b") ∷ []) ∷ [] ∷ [])
    × (rounds_of small (codes "a\nb\n") false ≡ (line 1 (codes "a") ∷ line 2 (codes "b") ∷ []) ∷ [])
    × (rounds_of small (codes "a\nb") false ≡ [])
unfolding lines_of
full = (refl, refl, refl, refl)

-- a round has exactly its bytes, or ends before the line that would bring it past them; LF and CR do not count. A line that is
-- too long by itself is a round of one line
bytes : (rounds_of small (codes "abc\r\nd\n") true ≡ (line 1 (codes "abc") ∷ line 2 (codes "d") ∷ []) ∷ [])
    × (rounds_of small (codes "abc\nde\n") true ≡ (line 1 (codes "abc") ∷ []) ∷ (line 2 (codes "de") ∷ []) ∷ [])
    × (rounds_of small (codes "abc\nde\n") false ≡ (line 1 (codes "abc") ∷ []) ∷ [])
    × (rounds_of small (codes "abcde\nf\n") true ≡ (line 1 (codes "abcde") ∷ []) ∷ (line 2 (codes "f") ∷ []) ∷ [])
unfolding lines_of
bytes = (refl, refl, refl, refl)

-- without input there is no output, and nothing happens
nothing_happens : (trees : Trees) (workers : ℕ) → IsLegal trees [] [] workers beginning.state
unfolding lines_of
nothing_happens trees workers = record {
  entries = [];
  lines = record { text = refl; tags = tt };
  after = beginning;
  legal = record { between = beginning; first = []; last = []; parts = refl; input = (refl, refl); further = (refl, refl) };
  reached = refl;
}

-- ---- a transcript of two rounds

-- the image, and its only layer
abbrev image : List ℕ
image = repeat 32 (0 ∷ [])

abbrev layer : List ℕ
layer = repeat 32 (17 ∷ [])

-- the layer is there, and it is empty
abbrev trees : Trees
trees digest = if same digest layer then Some [] else None

-- the lines of the two rounds, which the third line, an empty one, divides
abbrev register_line : List ℕ
register_line = codes "{\"do\":\"register\",\"manifest\":{\"hash\":\"sha256:0000000000000000000000000000000000000000000000000000000000000000\",\"layers\":[{\"hash\":\"sha256:1111111111111111111111111111111111111111111111111111111111111111\"}]}}"

abbrev report_line : List ℕ
report_line = codes "{\"do\":\"report\",\"image\":\"sha256:0000000000000000000000000000000000000000000000000000000000000000\"}"

abbrev manifest : Manifest
manifest = record { hash = image; layers = layer ∷ []; seals = None ∷ [] }

abbrev first_round : Round
first_round = line 1 register_line ∷ line 2 report_line ∷ []

abbrev second_round : Round
second_round = line 4 report_line ∷ []

-- what is asked
registers : request_line register_line ≡ Ok (record { lane = 0; act = request.Register manifest })
unfolding is_utf8 chars serde_json_on_literals request_of act_of register_of manifest_of decode_pairs
registers = refl

reports : request_line report_line ≡ Ok (record { lane = 0; act = request.Report image })
unfolding is_utf8 chars serde_json_on_literals request_of act_of decode_pairs
reports = refl

-- a request of lane 0
abbrev requested : ℕ → RequestAct → Requested
requested number act = record { line = number; request = record { lane = 0; act = act } }

-- the one line of lane 0 is answered
one_line : (number : ℕ) (act : RequestAct) (b : Bool) → cons_option (cond b (Some number) None) [] ≡ map (λ (r : Requested). r.line) (cond b (requested number act ∷ []) [])
one_line number act true = refl
one_line number act false = refl

-- what became of the lines
abbrev asks : ℕ → RequestAct → ParsedLine
asks number act = record { line = number; answer = Ok (record { lane = 0; act = act }) }

first_taken : AllZip IsTaken first_round (asks 1 (request.Register manifest) ∷ asks 2 (request.Report image) ∷ [])
first_taken = (record { number = refl; answer = registers }, (record { number = refl; answer = reports }, tt))

second_taken : AllZip IsTaken second_round (asks 4 (request.Report image) ∷ [])
second_taken = (record { number = refl; answer = reports }, tt)

-- a line that is a request has no fault, but memory may run out at any line
no_fault : (number : ℕ) (what : RequestWhat) → IsTaken (line number report_line) (record { line = number; answer = Err (error.BadRequest what) }) → ⊥
no_fault number what h =
    let known : request_line report_line ≡ Err (fault.BadRequest what) = h.answer in
    let both : Ok (record { lane = 0; act = request.Report image }) ≡ Err (fault.BadRequest what) = sym reports ∙ known in
    cc both

no_memory : (number : ℕ) (text : List ℕ) → IsTaken (line number text) (record { line = number; answer = Err error.NoMemory })
no_memory number text = record { number = refl; answer = tt }

no_other_number : (number : ℕ) (text : List ℕ) (answer : Result Request RequestError) → IsTaken (line number text) (record { line = number + 1; answer = answer }) → ⊥
no_other_number number text answer h = let same = h.number in omega (arith, same)

-- the first round registers the image, and its report waits for the layer
abbrev first_entries : List Entry
first_entries =
    entry.Event (record { number = 1; by = by.Lane 0 1; act = name.Register image; reply = reply.Registered })
    ∷ entry.Read (record { front = 1; lane = 0; line = 2; answer = answer.Report image (report.Pending layer) }) ∷ []

-- in the second round the worker indexes the layer, and a report after that is good
abbrev second_entries : List Entry
second_entries =
    entry.Event (record { number = 2; by = by.Worker 0; act = name.Claim layer; reply = reply.Claimed })
    ∷ entry.Event (record { number = 3; by = by.Worker 0; act = name.Indexed layer; reply = reply.Entered })
    ∷ entry.Read (record { front = 3; lane = 0; line = 4; answer = answer.Report image (report.Good 0 []) }) ∷ []

abbrev registered : Moment
registered = moment_after trees beginning (whole.Register manifest)

abbrev claimed : Moment
claimed = moment_after trees registered (whole.Claim layer 0)

abbrev indexed : Moment
indexed = moment_after trees claimed (whole.Indexed layer 0)

first_legal : IsLegalRound trees 1 beginning first_round first_entries registered
first_legal = record {
  taken = asks 1 (request.Register manifest) ∷ asks 2 (request.Report image) ∷ [];
  answers = first_taken;
  others = first_entries;
  parts = refl;
  replays = (
    registered,
    record { act = whole.Register manifest; source = refl; is = refl; next = refl },
    (record { act = request.Report image; source = refl; front = refl; is = inr refl }, refl),
  );
  ordered = ((tt, tt), (tt, tt));
  lanes = λ lane. by_lane (0 == lane);
  claims = λ other. refl;
  claimers = (tt, tt);
  works = λ worker. refl;
} where
  by_lane : (b : Bool)
      → cons_option (cond b (Some 1) None) (cons_option (cond b (Some 2) None) [])
      ≡ map (λ (r : Requested). r.line) (cond b (requested 1 (request.Register manifest) ∷ cond b (requested 2 (request.Report image) ∷ []) []) (cond b (requested 2 (request.Report image) ∷ []) []))
  by_lane true = refl
  by_lane false = refl

-- the worker ends what it claims
abbrev claim_event : EventEntry
claim_event = record { number = 2; by = by.Worker 0; act = name.Claim layer; reply = reply.Claimed }

abbrev indexed_event : EventEntry
indexed_event = record { number = 3; by = by.Worker 0; act = name.Indexed layer; reply = reply.Entered }

worker_works : (b : Bool) → Works None (cons_option (cond b (Some claim_event) None) (cons_option (cond b (Some indexed_event) None) [])) None
worker_works true = (tt, (refl, refl))
worker_works false = refl

second_legal : IsLegalRound trees 1 registered second_round second_entries indexed
unfolding rows_of scan image_packages root_entries packages findings affects fixed
second_legal = record {
  taken = asks 4 (request.Report image) ∷ [];
  answers = second_taken;
  others = second_entries;
  parts = refl;
  replays = (
    claimed,
    record { act = whole.Claim layer 0; source = refl; is = refl; next = refl },
    (
      indexed,
      record { act = whole.Indexed layer 0; source = refl; is = refl; next = refl },
      (record { act = request.Report image; source = refl; front = refl; is = inr refl }, refl),
    ),
  );
  ordered = ((tt, (tt, tt)), ((tt, tt), (tt, tt)));
  lanes = λ lane. one_line 4 (request.Report image) (0 == lane);
  claims = λ other. refl;
  claimers = (omega arith, (tt, tt));
  works = λ worker. worker_works (0 == worker);
}

-- a line that is no JSON is refused, before the lines of lanes
bad_json : request_line (codes "x") ≡ Err fault.BadJson
unfolding is_utf8 chars serde_json_on_literals request_of
bad_json = refl

bad_taken : AllZip IsTaken (line 1 report_line ∷ line 2 (codes "x") ∷ []) (asks 1 (request.Report image) ∷ record { line = 2; answer = Err error.BadJson } ∷ [])
bad_taken = (record { number = refl; answer = reports }, (record { number = refl; answer = bad_json }, tt))

bad_legal : IsLegalRound trees 1 beginning (line 1 report_line ∷ line 2 (codes "x") ∷ [])
    (entry.Refused 2 error.BadJson ∷ entry.Read (record { front = 0; lane = 0; line = 1; answer = answer.Report image report.NotRegistered }) ∷ []) beginning
bad_legal = record {
  taken = asks 1 (request.Report image) ∷ record { line = 2; answer = Err error.BadJson } ∷ [];
  answers = bad_taken;
  others = entry.Read (record { front = 0; lane = 0; line = 1; answer = answer.Report image report.NotRegistered }) ∷ [];
  parts = refl;
  replays = (record { act = request.Report image; source = refl; front = refl; is = inr refl }, refl);
  ordered = (tt, tt);
  lanes = λ lane. one_line 1 (request.Report image) (0 == lane);
  claims = λ other. refl;
  claimers = tt;
  works = λ worker. refl;
}

-- the line of a request that submits an event has none if memory ran out
full_legal : IsLegalRound trees 1 beginning (line 1 register_line ∷ []) (entry.Read (record { front = 0; lane = 0; line = 1; answer = answer.NoMemory }) ∷ []) beginning
full_legal = record {
  taken = asks 1 (request.Register manifest) ∷ [];
  answers = (record { number = refl; answer = registers }, tt);
  others = entry.Read (record { front = 0; lane = 0; line = 1; answer = answer.NoMemory }) ∷ [];
  parts = refl;
  replays = (record { act = request.Register manifest; source = refl; front = refl; is = inl refl }, refl);
  ordered = (tt, tt);
  lanes = λ lane. one_line 1 (request.Register manifest) (0 == lane);
  claims = λ other. refl;
  claimers = tt;
  works = λ worker. refl;
}

-- the two rounds make a legal transcript, after which no layer is Queued
two_rounds : AreLegal trees 1 beginning (first_round ∷ second_round ∷ []) (first_entries ++ second_entries) indexed
two_rounds = record {
  between = indexed;
  first = first_entries ++ second_entries;
  last = [];
  parts = refl;
  input = (registered, first_entries, second_entries, refl, first_legal, (indexed, second_entries, [], refl, second_legal, (refl, refl)));
  further = (refl, refl);
}

abbrev two_whole : List WholeRound
two_whole = whole_round first_round first_entries ∷ whole_round second_round second_entries ∷ []

-- each with its lines and its entries
two_all : AreAllRounds trees 1 beginning (first_round ∷ second_round ∷ []) two_whole indexed
two_all = record {
  between = indexed;
  first = two_whole;
  last = [];
  parts = refl;
  lines = refl;
  input = (registered, first_legal, (indexed, second_legal, refl));
  further = (refl, refl);
}

two_entries : (entries_in two_whole ≡ first_entries ++ second_entries)
two_entries = refl

-- after the first round alone the layer is Queued, and one more round indexes it
abbrev last_entries : List Entry
last_entries = entry.Event claim_event ∷ entry.Event indexed_event ∷ []

last_legal : IsLegalRound trees 1 registered [] last_entries indexed
unfolding rows_of scan image_packages root_entries packages findings affects fixed
last_legal = record {
  taken = [];
  answers = tt;
  others = last_entries;
  parts = refl;
  replays = (
    claimed,
    record { act = whole.Claim layer 0; source = refl; is = refl; next = refl },
    (indexed, record { act = whole.Indexed layer 0; source = refl; is = refl; next = refl }, refl),
  );
  ordered = ((tt, tt), (tt, tt));
  lanes = λ lane. refl;
  claims = λ other. refl;
  claimers = (omega arith, (tt, tt));
  works = λ worker. worker_works (0 == worker);
}

one_more_round : AreLegal trees 1 beginning (first_round ∷ []) (first_entries ++ last_entries) indexed
one_more_round = record {
  between = registered;
  first = first_entries;
  last = last_entries;
  parts = refl;
  input = (registered, first_entries, [], refl, first_legal, (refl, refl));
  further = last_legal;
}

one_more_all : AreAllRounds trees 1 beginning (first_round ∷ []) (whole_round first_round first_entries ∷ whole_round [] last_entries ∷ []) indexed
one_more_all = record {
  between = registered;
  first = whole_round first_round first_entries ∷ [];
  last = whole_round [] last_entries ∷ [];
  parts = refl;
  lines = refl;
  input = (registered, first_legal, refl);
  further = (last_entries, refl, last_legal);
}

-- the input has these two rounds
abbrev input : List ℕ
input = register_line ++ codes "\n" ++ report_line ++ codes "\n\n" ++ report_line ++ codes "\n"

rounds : rounds_of round_limits input true ≡ first_round ∷ second_round ∷ []
unfolding lines_of
rounds = refl

-- ---- as bytes

abbrev register_text : List ℕ
register_text = codes "{\"at\":1,\"event\":\"register\",\"image\":\"sha256:0000000000000000000000000000000000000000000000000000000000000000\",\"lane\":0,\"line\":1,\"reply\":\"registered\"}"

register_json : entry_json (entry.Event (record { number = 1; by = by.Lane 0 1; act = name.Register image; reply = reply.Registered })) ≡ register_text
unfolding entry_json serde_json_on_literals encode_with digits
register_json = refl

abbrev pending_text : List ℕ
pending_text = codes "{\"at\":1,\"image\":\"sha256:0000000000000000000000000000000000000000000000000000000000000000\",\"lane\":0,\"layer\":\"sha256:1111111111111111111111111111111111111111111111111111111111111111\",\"line\":2,\"read\":\"report\",\"reply\":\"pending\"}"

pending_json : entry_json (entry.Read (record { front = 1; lane = 0; line = 2; answer = answer.Report image (report.Pending layer) })) ≡ pending_text
unfolding entry_json serde_json_on_literals encode_with digits
pending_json = refl

abbrev claim_text : List ℕ
claim_text = codes "{\"at\":2,\"event\":\"claim\",\"layer\":\"sha256:1111111111111111111111111111111111111111111111111111111111111111\",\"reply\":\"claimed\",\"worker\":0}"

claim_json : entry_json (entry.Event (record { number = 2; by = by.Worker 0; act = name.Claim layer; reply = reply.Claimed })) ≡ claim_text
unfolding entry_json serde_json_on_literals encode_with digits
claim_json = refl

abbrev indexed_text : List ℕ
indexed_text = codes "{\"at\":3,\"event\":\"indexed\",\"layer\":\"sha256:1111111111111111111111111111111111111111111111111111111111111111\",\"reply\":\"entered\",\"worker\":0}"

indexed_json : entry_json (entry.Event (record { number = 3; by = by.Worker 0; act = name.Indexed layer; reply = reply.Entered })) ≡ indexed_text
unfolding entry_json serde_json_on_literals encode_with digits
indexed_json = refl

abbrev good_text : List ℕ
good_text = codes "{\"at\":3,\"findings\":[],\"generation\":0,\"image\":\"sha256:0000000000000000000000000000000000000000000000000000000000000000\",\"lane\":0,\"line\":4,\"read\":\"report\",\"reply\":\"good\"}"

good_json : entry_json (entry.Read (record { front = 3; lane = 0; line = 4; answer = answer.Report image (report.Good 0 []) })) ≡ good_text
unfolding entry_json serde_json_on_literals encode_with digits
good_json = refl

-- the lines of the two rounds
texts : flat_map entry_text (first_entries ++ second_entries)
    ≡ register_text ++ 10 ∷ pending_text ++ 10 ∷ claim_text ++ 10 ∷ indexed_text ++ 10 ∷ good_text ++ 10 ∷ []
unfolding entry_text line_text entry_json serde_json_on_literals encode_with digits
texts = refl

-- each line of the output has the tag of its entry
abbrev HasTag : Entry → Type 0
HasTag e = tag_of_json (entry_json e) ≡ Some (entry_tag e)

has_tag : (e : Entry) (text : List ℕ) → entry_json e ≡ text → tag_of_json text ≡ Some (entry_tag e) → HasTag e
has_tag e text is read = ap (λ json. tag_of_json json) is ∙ read

tags : AllByRecursion HasTag (first_entries ++ second_entries)
unfolding is_utf8 chars serde_json_on_literals encode_with
tags = (
  has_tag _ register_text register_json refl,
  (
    has_tag _ pending_text pending_json refl,
    (
      has_tag _ claim_text claim_json refl,
      (
        has_tag _ indexed_text indexed_json refl,
        (has_tag _ good_text good_json refl, tt),
      ),
    ),
  ),
)

-- so the output is a legal transcript of the input
abbrev output : List ℕ
output = register_text ++ 10 ∷ pending_text ++ 10 ∷ claim_text ++ 10 ∷ indexed_text ++ 10 ∷ good_text ++ 10 ∷ []

legal : IsLegal trees input output 1 indexed.state
legal = record {
  entries = first_entries ++ second_entries;
  lines = record { text = sym texts; tags = tags };
  after = indexed;
  legal = subst (λ cut. AreLegal trees 1 beginning cut (first_entries ++ second_entries) indexed) (sym rounds) two_rounds;
  reached = refl;
}

-- ---- a transcript that goes on: the image was registered before it, and the layer is Queued

-- the input has one line, and the events have the numbers after that of the registration
abbrev later_input : List ℕ
later_input = report_line ++ codes "\n"

abbrev later_round : Round
later_round = line 1 report_line ∷ []

abbrev later_entries : List Entry
later_entries =
    entry.Event claim_event ∷ entry.Event indexed_event
    ∷ entry.Read (record { front = 3; lane = 0; line = 1; answer = answer.Report image (report.Good 0 []) }) ∷ []

later_rounds : rounds_of round_limits later_input true ≡ later_round ∷ []
unfolding lines_of
later_rounds = refl

later_legal : IsLegalRound trees 1 registered later_round later_entries indexed
unfolding rows_of scan image_packages root_entries packages findings affects fixed
later_legal = record {
  taken = asks 1 (request.Report image) ∷ [];
  answers = (record { number = refl; answer = reports }, tt);
  others = later_entries;
  parts = refl;
  replays = (
    claimed,
    record { act = whole.Claim layer 0; source = refl; is = refl; next = refl },
    (
      indexed,
      record { act = whole.Indexed layer 0; source = refl; is = refl; next = refl },
      (record { act = request.Report image; source = refl; front = refl; is = inr refl }, refl),
    ),
  );
  ordered = ((tt, (tt, tt)), ((tt, tt), (tt, tt)));
  lanes = λ lane. one_line 1 (request.Report image) (0 == lane);
  claims = λ other. refl;
  claimers = (omega arith, (tt, tt));
  works = λ worker. worker_works (0 == worker);
}

-- no layer is Queued after it
later_whole : AreLegal trees 1 registered (later_round ∷ []) later_entries indexed
later_whole = record {
  between = indexed;
  first = later_entries;
  last = [];
  parts = refl;
  input = (indexed, later_entries, [], refl, later_legal, (refl, refl));
  further = (refl, refl);
}

abbrev later_good_text : List ℕ
later_good_text = codes "{\"at\":3,\"findings\":[],\"generation\":0,\"image\":\"sha256:0000000000000000000000000000000000000000000000000000000000000000\",\"lane\":0,\"line\":1,\"read\":\"report\",\"reply\":\"good\"}"

later_good_json : entry_json (entry.Read (record { front = 3; lane = 0; line = 1; answer = answer.Report image (report.Good 0 []) })) ≡ later_good_text
unfolding entry_json serde_json_on_literals encode_with digits
later_good_json = refl

abbrev later_output : List ℕ
later_output = claim_text ++ 10 ∷ indexed_text ++ 10 ∷ later_good_text ++ 10 ∷ []

later_texts : flat_map entry_text later_entries ≡ later_output
unfolding entry_text line_text entry_json serde_json_on_literals encode_with digits
later_texts = refl

later_tags : AllByRecursion HasTag later_entries
unfolding is_utf8 chars serde_json_on_literals encode_with
later_tags = (
  has_tag _ claim_text claim_json refl,
  (
    has_tag _ indexed_text indexed_json refl,
    (has_tag _ later_good_text later_good_json refl, tt),
  ),
)

later : IsLegalFrom trees registered later_input later_output 1 indexed.state
later = record {
  entries = later_entries;
  lines = record { text = sym later_texts; tags = later_tags };
  after = indexed;
  legal = subst (λ cut. AreLegal trees 1 registered cut later_entries indexed) (sym later_rounds) later_whole;
  reached = refl;
}

-- ---- what is not legal, whatever the lines are

-- an entry of a refused line
abbrev IsRefused : Entry → Type 0
IsRefused (entry.Refused number error) = ⊤
IsRefused (entry.Event event) = ⊥
IsRefused (entry.Read read) = ⊥

all_refused : (taken : List ParsedLine) → AllByRecursion IsRefused (refusals taken)
all_refused [] = tt
all_refused (first ∷ taken) = by_answer first.answer (all_refused taken) where
  by_answer : (answer : Result Request RequestError) → AllByRecursion IsRefused (refusals taken)
      → AllByRecursion IsRefused (cons_option (refusal_at first.line answer) (refusals taken))
  by_answer (Ok request) rest = rest
  by_answer (Err error) rest = (tt, rest)

-- the first entry, if there is one, is not of a refused line
abbrev BeginsUnrefused : List Entry → Type 0
BeginsUnrefused [] = ⊤
BeginsUnrefused (e ∷ entries) = IsRefused e → ⊥

-- so there are no refused lines before the others
no_refusals : (entries refused others : List Entry) → BeginsUnrefused entries → AllByRecursion IsRefused refused → entries ≡ refused ++ others → others ≡ entries
no_refusals entries [] others none all is = sym is
no_refusals [] (x ∷ refused) others none all is = absurd (cc is)
no_refusals (e ∷ entries) (x ∷ refused) others none all is =
    let same : e ≡ x = cc is in
    absurd (none (subst IsRefused (sym same) all.0))

others_are : (kept : Trees) (workers : ℕ) (before : Moment) (lines : Round) (entries : List Entry) (after : Moment) (h : IsLegalRound kept workers before lines entries after)
    → BeginsUnrefused entries → h.others ≡ entries
others_are kept workers before lines entries after h none = no_refusals entries (refusals h.taken) h.others none (all_refused h.taken) h.parts

-- a report that waits for a layer which is Indexed
abbrev late_entries : List Entry
late_entries = entry.Read (record { front = 3; lane = 0; line = 4; answer = answer.Report image (report.Pending layer) }) ∷ []

-- in this state no report of the image waits
never_waits : (requested : Option Read) → option_map (answer_to trees indexed.state) requested ≡ Some (answer.Report image (report.Pending layer)) → ⊥
unfolding rows_of scan image_packages root_entries packages findings affects fixed
never_waits None is = cc is
never_waits (Some (reads.Report other)) is =
    let same : other ≡ image = cc is in
    let waits : report_of trees indexed.state other ≡ report.Pending layer = cc is in
    let good : report.Good 0 [] ≡ report.Pending layer = subst (λ x. report_of trees indexed.state x ≡ report.Pending layer) same waits in
    cc good
never_waits (Some (reads.Page notification size number)) is = cc is
never_waits (Some reads.Heads) is = cc is

late : (workers : ℕ) (lines : Round) (after : Moment) → IsLegalRound trees workers indexed lines late_entries after → ⊥
late workers lines after h =
    let replays : Replays trees (requests h.taken) indexed late_entries after =
    subst (λ entries. Replays trees (requests h.taken) indexed entries after) (others_are trees workers indexed lines late_entries after h (λ refused. refused)) h.replays in
    by_kind replays.0.act replays.0.is where
      by_kind : (act : RequestAct)
          → (answer.Report image (report.Pending layer) ≡ answer.NoMemory) ⊎ (option_map (answer_to trees indexed.state) (read_of act) ≡ Some (answer.Report image (report.Pending layer))) → ⊥
      by_kind act (inl is) = cc is
      by_kind act (inr is) = never_waits (read_of act) is

-- two reads of a lane in the other order
abbrev swapped_entries : Answer → Answer → List Entry
swapped_entries first second =
    entry.Read (record { front = 0; lane = 0; line = 2; answer = second }) ∷ entry.Read (record { front = 0; lane = 0; line = 1; answer = first }) ∷ []

swapped : (first second : Answer) (workers : ℕ) (lines : Round) (after : Moment) → IsLegalRound trees workers beginning lines (swapped_entries first second) after → ⊥
swapped first second workers lines after h =
    let ordered : AreReadsOrdered (swapped_entries first second) =
    subst (λ entries. AreReadsOrdered entries) (others_are trees workers beginning lines (swapped_entries first second) after h (λ refused. refused)) h.ordered in
    by_kind (ordered.0.0 refl) where
      by_kind : (0 < 0) ⊎ (◌≡◌ {A = ℕ} 0 0 × (2 < 1)) → ⊥
      by_kind (inl less) = omega (arith, less)
      by_kind (inr less) = let l = less.1 in omega (arith, l)

-- two reads of two lanes, of which the higher stands first, whatever their lines are
abbrev lanes_entries : ℕ → ℕ → Answer → Answer → List Entry
lanes_entries low high first second =
    entry.Read (record { front = 0; lane = low; line = 2; answer = first }) ∷ entry.Read (record { front = 0; lane = high; line = 1; answer = second }) ∷ []

lower_first : (first second : Answer) → AreReadsOrdered (lanes_entries 0 1 first second)
lower_first first second = ((λ front. inl (omega arith), tt), (tt, tt))

higher_first : (first second : Answer) (workers : ℕ) (lines : Round) (after : Moment) → IsLegalRound trees workers beginning lines (lanes_entries 1 0 first second) after → ⊥
higher_first first second workers lines after h =
    let ordered : AreReadsOrdered (lanes_entries 1 0 first second) =
    subst (λ entries. AreReadsOrdered entries) (others_are trees workers beginning lines (lanes_entries 1 0 first second) after h (λ refused. refused)) h.ordered in
    by_kind (ordered.0.0 refl) where
      by_kind : (1 < 0) ⊎ (◌≡◌ {A = ℕ} 1 0 × (2 < 1)) → ⊥
      by_kind (inl less) = omega (arith, less)
      by_kind (inr less) = let l = less.1 in omega (arith, l)

-- two events of a lane in the other order, if the numbers of the lines ascend
not_falling : (rs : List Requested) → RequestsAscend rs → 2 ∷ 1 ∷ [] ≡ map (λ (r : Requested). r.line) rs → ⊥
not_falling [] ascend is = cc is
not_falling (x ∷ []) ascend is = cc is
not_falling (x ∷ y ∷ rs) ascend is =
    let low = ascend.0.0 in
    let first : 2 ≡ x.line = cc is in
    let second : 1 ≡ y.line = cc is in
    omega (arith, low, first, second)

abbrev swapped_events : EventEntry → EventEntry → List Entry
swapped_events first second = entry.Event (record second { by = by.Lane 0 2 }) ∷ entry.Event (record first { by = by.Lane 0 1 }) ∷ []

swapped_acts : (first second : EventEntry) (workers : ℕ) (before : Moment) (lines : Round) (last : ℕ) (after : Moment) → LinesAscend lines last
    → IsLegalRound trees workers before lines (swapped_events first second) after → ⊥
swapped_acts first second workers before lines last after ascend h =
    let same = others_are trees workers before lines (swapped_events first second) after h (λ refused. refused) in
    let numbers : lines_answered 0 (swapped_events first second) ≡ lines_requested 0 (requests h.taken) =
    subst (λ entries. lines_answered 0 entries ≡ lines_requested 0 (requests h.taken)) same (h.lanes 0) in
    not_falling (lane_requests 0 (requests h.taken)) (rise_lane 0 (requests h.taken) (requests_ascend lines last h.taken h.answers ascend)) numbers

-- no claim of a layer that is Queued as the round begins
unclaimed : (workers : ℕ) (lines : Round) (after : Moment) → IsLegalRound trees workers registered lines [] after → ⊥
unclaimed workers lines after h =
    let none : h.others ≡ [] = others_are trees workers registered lines [] after h tt in
    let claims : times layer (claims_of (events_of [])) ≡ 1 = subst (λ entries. times layer (claims_of (events_of entries)) ≡ 1) none (h.claims layer) in
    omega (arith, claims)

-- so there is one more round after the last, if a layer is Queued
no_more_round : (workers : ℕ) (after : Moment) → AreLast (queued registered.state.layers) trees workers registered [] after → ⊥
no_more_round workers after h = unclaimed workers [] after h

-- a claim by a worker that there is not
abbrev other_claim : Reply → List Entry
other_claim answer = entry.Event (record { number = 2; by = by.Worker 1; act = name.Claim layer; reply = answer }) ∷ []

no_such_worker : (answer : Reply) (lines : Round) (after : Moment) → IsLegalRound trees 1 registered lines (other_claim answer) after → ⊥
no_such_worker answer lines after h =
    let same = others_are trees 1 registered lines (other_claim answer) after h (λ refused. refused) in
    let below : AllByRecursion (λ event. ClaimsBelow 1 event.by event.act) (events_of (other_claim answer)) =
    subst (λ entries. AllByRecursion (λ event. ClaimsBelow 1 event.by event.act) (events_of entries)) same h.claimers in
    let low : 1 < 1 = below.0 in
    omega (arith, low)

-- a result without its claim, though the layer was claimed before the round
abbrev only_result : List Entry
only_result = entry.Event indexed_event ∷ []

no_claim : (workers : ℕ) (lines : Round) (after : Moment) → IsLegalRound trees workers claimed lines only_result after → ⊥
no_claim workers lines after h =
    let same = others_are trees workers claimed lines only_result after h (λ refused. refused) in
    let works : Works None (indexed_event ∷ []) None = subst (λ entries. Works None (events_by 0 (events_of entries)) None) same (h.works 0) in
    works.0

-- a claim without its result in the round
abbrev only_claim : List Entry
only_claim = entry.Event claim_event ∷ []

no_result : (workers : ℕ) (lines : Round) (after : Moment) → IsLegalRound trees workers registered lines only_claim after → ⊥
no_result workers lines after h =
    let same = others_are trees workers registered lines only_claim after h (λ refused. refused) in
    let works : Works None (claim_event ∷ []) None = subst (λ entries. Works None (events_by 0 (events_of entries)) None) same (h.works 0) in
    cc works.1

-- a read whose front counts an event that does not stand before it
abbrev early_read : Answer → List Entry
early_read found = entry.Read (record { front = 1; lane = 0; line = 1; answer = found }) ∷ []

early : (found : Answer) (workers : ℕ) (lines : Round) (after : Moment) → IsLegalRound trees workers beginning lines (early_read found) after → ⊥
early found workers lines after h =
    let replays : Replays trees (requests h.taken) beginning (early_read found) after =
    subst (λ entries. Replays trees (requests h.taken) beginning entries after) (others_are trees workers beginning lines (early_read found) after h (λ refused. refused)) h.replays in
    cc replays.0.front

-- a refused line after an event
abbrev late_refusal : EventEntry → ℕ → RequestError → List Entry
late_refusal event number error = entry.Event event ∷ entry.Refused number error ∷ []

refused_late : (event : EventEntry) (number : ℕ) (error : RequestError) (workers : ℕ) (before : Moment) (lines : Round) (after : Moment)
    → IsLegalRound trees workers before lines (late_refusal event number error) after → ⊥
refused_late event number error workers before lines after h =
    let replays : Replays trees (requests h.taken) before (late_refusal event number error) after =
    subst (λ entries. Replays trees (requests h.taken) before entries after) (others_are trees workers before lines (late_refusal event number error) after h (λ refused. refused)) h.replays in
    replays.2

-- a claim of a layer that is not Queued as the round begins
not_queued : (workers : ℕ) (lines : Round) (after : Moment) → IsLegalRound trees workers beginning lines only_claim after → ⊥
not_queued workers lines after h =
    let same = others_are trees workers beginning lines only_claim after h (λ refused. refused) in
    let claims : 1 ≡ times layer (queued beginning.state.layers) =
    subst (λ entries. times layer (claims_of (events_of entries)) ≡ times layer (queued beginning.state.layers)) same (h.claims layer) in
    omega (arith, claims)

-- two claims of a layer
abbrev two_claims : Reply → List Entry
two_claims answer = entry.Event claim_event ∷ entry.Event indexed_event ∷ entry.Event (record claim_event { number = 4; reply = answer }) ∷ []

claimed_twice : (answer : Reply) (workers : ℕ) (lines : Round) (after : Moment) → IsLegalRound trees workers registered lines (two_claims answer) after → ⊥
claimed_twice answer workers lines after h =
    let same = others_are trees workers registered lines (two_claims answer) after h (λ refused. refused) in
    let claims : 2 ≡ times layer (queued registered.state.layers) =
    subst (λ entries. times layer (claims_of (events_of entries)) ≡ times layer (queued registered.state.layers)) same (h.claims layer) in
    omega (arith, claims)

-- a result of another layer than the worker claimed
abbrev other_result : List Entry
other_result = entry.Event claim_event ∷ entry.Event (record indexed_event { act = name.Indexed image }) ∷ []

wrong_layer : (workers : ℕ) (lines : Round) (after : Moment) → IsLegalRound trees workers registered lines other_result after → ⊥
wrong_layer workers lines after h =
    let same_entries = others_are trees workers registered lines other_result after h (λ refused. refused) in
    let works : Works None (claim_event ∷ record indexed_event { act = name.Indexed image } ∷ []) None =
    subst (λ entries. Works None (events_by 0 (events_of entries)) None) same_entries (h.works 0) in
    let layers : image ≡ layer = works.1.0 in
    let wrong : false ≡ true = ap (λ digest. same digest layer) layers in
    cc wrong

-- what the second round asks, if it begins with no refused line
asks_report : (taken : List ParsedLine) (entries others : List Entry) → AllZip IsTaken second_round taken → BeginsUnrefused entries → entries ≡ refusals taken ++ others
    → requests taken ≡ requested 4 (request.Report image) ∷ []
asks_report [] entries others h none is = absurd h
asks_report (first ∷ next ∷ taken) entries others h none is = absurd h.1
asks_report (first ∷ []) entries others h none is = by_answer first.answer h.0.answer is where
  by_answer : (answer : Result Request RequestError) → MatchesUnlessOutOfMemory fault_of (λ request. request) answer (request_line report_line)
      → entries ≡ cons_option (refusal_at first.line answer) [] ++ others
      → cons_option (request_at first.line answer) [] ≡ requested 4 (request.Report image) ∷ []
  by_answer (Ok r) known is =
      let both : Ok (record { lane = 0; act = request.Report image }) ≡ Ok r = sym reports ∙ known in
      let same_request : record { lane = 0; act = request.Report image } ≡ r = cc both in
      ap (λ (x : Request). record { line = first.line; request = x } ∷ []) (sym same_request)
      ∙ ap (λ n. requested n (request.Report image) ∷ []) h.0.number
  by_answer (Err error) known is = absurd (subst BeginsUnrefused is none tt)

-- a line without an entry
no_answer : (workers : ℕ) (before after : Moment) → IsLegalRound trees workers before second_round [] after → ⊥
no_answer workers before after h =
    let requested_lines = ap (λ rs. lines_requested 0 rs) (asks_report h.taken [] h.others h.answers tt h.parts) in
    let answered = subst (λ entries. lines_answered 0 entries ≡ lines_requested 0 (requests h.taken)) (others_are trees workers before second_round [] after h tt) (h.lanes 0) in
    let none : ◌≡◌ {A = List ℕ} [] (4 ∷ []) = answered ∙ requested_lines in
    cc none

-- an event that its line does not ask for
abbrev not_requested : ℕ → Reply → List Entry
not_requested number answer = entry.Event (record { number = number; by = by.Lane 0 4; act = name.DropImage image; reply = answer }) ∷ []

asks_no_event : (number : ℕ) (answer : Reply) (workers : ℕ) (before after : Moment) → IsLegalRound trees workers before second_round (not_requested number answer) after → ⊥
asks_no_event number answer workers before after h =
    let entries = not_requested number answer in
    let asks = asks_report h.taken entries h.others h.answers (λ refused. refused) h.parts in
    let replays : Replays trees (requested 4 (request.Report image) ∷ []) before (not_requested number answer) after =
    subst (λ rs. Replays trees rs before (not_requested number answer) after) asks
    (subst (λ es. Replays trees (requests h.taken) before es after) (others_are trees workers before second_round entries after h (λ refused. refused)) h.replays) in
    let source : None ≡ Some replays.1.act = replays.1.source in
    cc source

-- ---- a round without lines and without a Queued layer has no entries, so it is nothing to leave it out

no_lines : (taken : List ParsedLine) → AllZip IsTaken [] taken → taken ≡ []
no_lines [] h = refl
no_lines (first ∷ taken) h = absurd h

-- a worker's first event is a claim
first_claim : (act : Act) (claims : List (List ℕ)) → FitsWork None act → ((digest : List ℕ) → times digest (cons_option (claim_in act) claims) ≡ 0) → ⊥
first_claim (name.Register digest) claims fits none = fits
first_claim (name.DropImage digest) claims fits none = fits
first_claim (name.Update feed) claims fits none = fits
first_claim (name.Patch feed) claims fits none = fits
first_claim (name.Claim digest) claims fits none = by_same (same digest digest) (same_self digest) (none digest) where
  by_same : (b : Bool) → b ≡ true → length (cond b (digest ∷ filter (same digest) claims) (filter (same digest) claims)) ≡ 0 → ⊥
  by_same true is long = omega (arith, long)
  by_same false is long = cc is
first_claim (name.Indexed digest) claims fits none = fits
first_claim (name.Fault digest) claims fits none = fits
first_claim (name.Memory digest) claims fits none = fits
first_claim (name.Ack number) claims fits none = fits

-- an event is of a worker, and there is no claim
no_event : (source : By) (event : EventEntry) (act : MachineEvent) (events : List EventEntry) → submitted [] source event.act ≡ Some act
    → ((digest : List ℕ) → times digest (cons_option (claim_in event.act) (claims_of events)) ≡ 0)
    → ((worker : ℕ) → Works None (cons_option (event_by worker source event) (events_by worker events)) None) → ⊥
no_event (by.Lane lane number) event act events asks claims works = cc asks
no_event (by.Worker worker) event act events asks claims works = by_worker (worker == worker) (eq-eqb worker worker refl) (works worker) where
  by_worker : (b : Bool) → b ≡ true → Works None (cons_option (cond b (Some event) None) (events_by worker events)) None → ⊥
  by_worker true is work = first_claim event.act (claims_of events) work.0 claims
  by_worker false is work = cc is

no_others : (kept : Trees) (before : Moment) (others : List Entry) (after : Moment) → Replays kept [] before others after
    → ((digest : List ℕ) → times digest (claims_of (events_of others)) ≡ 0) → ((worker : ℕ) → Works None (events_by worker (events_of others)) None) → others ≡ []
no_others kept before [] after replays claims works = refl
no_others kept before (entry.Refused number error ∷ others) after replays claims works = absurd replays
no_others kept before (entry.Read read ∷ others) after replays claims works = let source : None ≡ Some replays.0.act = replays.0.source in absurd (cc source)
no_others kept before (entry.Event event ∷ others) after replays claims works =
    absurd (no_event event.by event replays.1.act (events_of others) replays.1.source claims works)

nothing_to_do : (kept : Trees) (workers : ℕ) (before : Moment) (entries : List Entry) (after : Moment) → queued before.state.layers ≡ []
    → IsLegalRound kept workers before [] entries after → entries ≡ []
nothing_to_do kept workers before entries after idle h =
    let none = no_lines h.taken h.answers in
    let replays : Replays kept [] before h.others after = subst (λ taken. Replays kept (requests taken) before h.others after) none h.replays in
    let claims : ((digest : List ℕ) → times digest (claims_of (events_of h.others)) ≡ 0) = λ digest. h.claims digest ∙ ap (λ layers. times digest layers) idle in
    h.parts ∙ ap (λ taken. refusals taken ++ h.others) none ∙ no_others kept before h.others after replays claims h.works
