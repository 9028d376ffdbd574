-- The decision follows the chunks: after any failures, the list in force is what is left of the exchange.
-- ---- what holds on the way
use Rattle.std.proofs.Math.Path.{◌≡◌, refl, sym, ap, subst}
use Rattle.std.proofs.Common.{ap₂, ◌∙◌, arith, drop-drop, take-add}
use mathlib.Core.List.{List, [], ◌∷◌, ◌++◌}
use Rattle.std.specs.Prelude.{Bool, true, false, ℕ, suc, ◌+◌, ◌*◌, ◌-◌, ◌≤◌, ◌<◌, length, take}
use Rattle.std.proofs.Math.ListN.{drop}
use Rattle.flash.specs.Geometry.{start_of}
use Rattle.flash.specs.declared.Sector.{Sector}
use Rattle.flash.specs.Build.{Area, slot0, slot1, scratch, Build, Move, Flash, area, data_sectors, valid, geometry, trailer_sector, lent_bytes}
use Rattle.flash.specs.Operations.{Op, run_all}
use Rattle.flash.specs.Harm.{Cut}
use Rattle.trailer.specs.Trailer.{trailer, magic_of, is_good}
use Rattle.plan.specs.declared.Course.{Course}
use Rattle.plan.specs.declared.Course.TheVariants.{Damage, FromLineThree, Resume}
use Rattle.plan.specs.Lists.{progress, lines_one_two, lines_three_to_six, move_ops, data_ops, exchange}
use Rattle.plan.specs.Decision.{step_b, state_c, asks, judged, decide, list_of, ok_unset, in_force, found_of}
use Rattle.recovery.specs.All.{All, none, one, one_less}
use Rattle.recovery.specs.Cuts.{run_all_append}
use Rattle.recovery.specs.Windows.{hidden_run, hidden_cut, all_lengths}
use Rattle.recovery.specs.Places.{Geo, Sized, per}
use Rattle.recovery.specs.Statement.{Sound, Proper, Failures, FinishedBy, AllStopped, Exchange, by_test, by_permanent, by_revert, sector_of, same_sector}
use Rattle.recovery.specs.Count.{rest_short, settle_short, length_move, trailers_short}
use Rattle.recovery.specs.Hiding.{hidden_begin}
use Rattle.recovery.specs.Begin.{sized_run, begun, trailer_begin, begun_good, step_a_lem}
use Rattle.recovery.specs.Settling.{Under, wipe_both, settled}
use Rattle.recovery.specs.Moving.{under_wiped, under_move, resumes}
use Rattle.recovery.specs.Sectors.{moved, moved_append, moved_same, sector_same, sector_both, sector_unwiped}
use Rattle.recovery.specs.MoveRun.{sector_step, sector_settled}
use Rattle.recovery.specs.Validity.{valid_same}
use Rattle.recovery.proofs.Chunks.{over, first, taken_up}
use Rattle.recovery.proofs.Chunks.{Chunk, all_ops, Good}
use Rattle.recovery.proofs.Starts.{nothing, chunk, two, this, another, last, earlier}
use Rattle.recovery.proofs.Starts.{Within, HasLong, LongToLast, finishes_after}
use Rattle.recovery.proofs.Starts.{never_finishes_after}
use Rattle.recovery.proofs.Stages.{BeginLike, begin_chunk, settle_chunk, move_chunk, done_chunk, data_chunks, all_data}

-- the target of the first of the moves ms is not sector k of area b
abbrev pub Spared : List Move → Area → Sector → Type 0
Spared ms b k = (m : Move) (rest : List Move) → ms ≡ m ∷ rest → same_sector m.to m.to_sector b k ≡ false

-- Where the sectors are, when the decision finds c marks: as at the start, or as the marked moves left them but for the target of
-- the next.
pub data Where (g : Build) (f₀ f : Flash) : ℕ → Type 0 where
  before : ((b : Area) (k : Sector) → k.0 < data_sectors g b → sector_of g f b k ≡ sector_of g f₀ b k) → Where g f₀ f 0
  amid : {c : ℕ} → 3 ≤ c → ((b : Area) (k : Sector) → k.0 < data_sectors g b → Spared (drop (c - 3) g.moves) b k
      → sector_of g f b k ≡ moved (take (c - 3) g.moves) (sector_of g f₀) b k) → Where g f₀ f c

pub record Way (check : List ℕ → Bool) (g : Build) (p : Bool) (f₀ f : Flash) : Type 0 where
  pub fits : valid g f ≡ true
  pub undamaged : decide check g f ≡ Damage → ⊥
  pub short : length (in_force check g f) ≤ length (exchange g p)
  pub lies : Where g f₀ f (found_of (decide check g f))

-- clean before the moves ms of an exchange that began at f₀, with c marks written
record At (g : Build) (f₀ : Flash) (c : ℕ) (ms : List Move) (f : Flash) : Type 0 where
  enough : 3 ≤ c
  left : drop (c - 3) g.moves ≡ ms
  total : c + length ms ≡ 3 + length g.moves
  proper : All (Proper g) ms
  under : Under g c f
  sized : (a : Area) → Sized g a f
  sectors : (b : Area) (k : Sector) → k.0 < data_sectors g b
      → sector_of g f b k ≡ moved (take (c - 3) g.moves) (sector_of g f₀) b k

next : {g : Build} → Geo g → Sound g → (f₀ : Flash) {c : ℕ} {m : Move} {ms : List Move} {f : Flash} → At g f₀ c (m ∷ ms) f
    → At g f₀ (suc c) ms (run_all g (move_ops g m ++ (progress g c ∷ [])) f)
unfolding run_all moved
next {g} geo sound f₀ {c} {m} {ms} {f} a =
    let σ = sector_of g f₀ in
    let done : List Move = take (c - 3) g.moves in
    let e : suc c - 3 ≡ c - 3 + 1 = omega (arith, a.enough) in
    let t : take (suc c - 3) g.moves ≡ done ++ (m ∷ []) =
    ap (λ (k : ℕ). take k g.moves) e ∙ take-add (c - 3) 1 g.moves ∙ ap (λ (x : List Move). done ++ take 1 x) a.left in
    let r : moved (take (suc c - 3) g.moves) σ ≡ moved (m ∷ []) (moved done σ) =
    ap (λ (x : List Move). moved x σ) t ∙ moved_append done (m ∷ []) σ in
    let ok : Proper g m = (one_less a.proper).0 in
    let room : c < 3 * g.sectors = omega (arith, a.total, sound.places) in
    rw (run_all_append g (move_ops g m) (progress g c ∷ []) f) record {
      enough = omega (arith, a.enough);
      left = ap (λ (k : ℕ). drop k g.moves) e ∙ sym (drop-drop 1 (c - 3) g.moves) ∙ ap (drop 1) a.left;
      total = omega (arith, a.total);
      proper = (one_less a.proper).1;
      under = under_move geo m f ok.writes room a.under;
      sized = λ b. sized_run g b (progress g c ∷ []) (run_all g (move_ops g m) f) (sized_run g b (move_ops g m) f (a.sized b));
      sectors = λ b k h. sector_step geo m ok c f room a.sized b k h
          ∙ moved_same g (m ∷ []) (one ok none) (sector_of g f) (moved done σ) a.sectors b k h
          ∙ ap (λ x. x b k) (sym r);
    }

-- ---- the decision follows

SameLengths : Flash → Flash → Type 0
SameLengths f₀ f = (a : Area) → length (area a f) ≡ length (area a f₀)

pub exchange_list : (g : Build) (unset : Bool) {course : Course} {p : Bool} → Exchange course p → list_of g unset course ≡ exchange g p
unfolding list_of
exchange_list g unset by_test = refl
exchange_list g unset by_permanent = refl
exchange_list g unset by_revert = refl

no_damage : {course : Course} {p : Bool} → Exchange course p → course ≡ Damage → ⊥
no_damage by_test e = let z : ◌≡◌ {A = ℕ} 0 1 = cc in omega arith
no_damage by_permanent e = let z : ◌≡◌ {A = ℕ} 0 1 = cc in omega arith
no_damage by_revert e = let z : ◌≡◌ {A = ℕ} 0 1 = cc in omega arith

not_found : {course : Course} {p : Bool} → Exchange course p → found_of course ≡ 0
unfolding found_of
not_found by_test = refl
not_found by_permanent = refl
not_found by_revert = refl

module _ (check : List ℕ → Bool) {g : Build} (geo : Geo g) (sound : Sound g) {course : Course} {p : Bool}
    (which : Exchange course p)
    (f₀ : Flash) (fits : valid g f₀ ≡ true) (sized : (a : Area) → Sized g a f₀)
    (quiet : is_good (magic_of g (trailer g scratch f₀)) ≡ false) (due : decide check g f₀ ≡ course) where
  keeps : (ops : List Op) (f f' : Flash) → Cut g ops f f' → SameLengths f₀ f → SameLengths f₀ f'
  unfolding SameLengths
  keeps ops f f' k h a = hidden_cut (all_lengths g a ops) k ∙ h a

  -- what a decision says of the list in force
  planned : (f : Flash) → SameLengths f₀ f → (course : Course) → decide check g f ≡ course
      → in_force check g f ≡ list_of g (ok_unset g f) course
  unfolding SameLengths in_force
  planned f inv course e = rw (valid_same g f₀ f inv ∙ fits, e)

  way : (f : Flash) → SameLengths f₀ f → (course : Course) → (course ≡ Damage → ⊥) → (ops : List Op) → in_force check g f ≡ ops
      → decide check g f ≡ course → length ops ≤ length (exchange g p) → Where g f₀ f (found_of course) → Way check g p f₀ f
  unfolding SameLengths
  way f inv course n ops i e l x =
      record {
        fits = valid_same g f₀ f inv ∙ fits;
        undamaged = λ d. n (sym e ∙ d);
        short = rw i l;
        lies = subst (Where g f₀ f) (sym (ap found_of e)) x;
      }

  follow_moves : {c : ℕ} {ms : List Move} {clean : Flash} → At g f₀ c ms clean → (f : Flash) → Under g c f → SameLengths f₀ f
      → ((b : Area) (k : Sector) → Spared ms b k → sector_of g f b k ≡ sector_of g clean b k)
      → (in_force check g f ≡ all_ops (data_chunks geo c ms)) × Way check g p f₀ f
  unfolding list_of found_of
  follow_moves {c} {ms} a f u inv h =
      let e : decide check g f ≡ Resume c = resumes geo check sound f a.enough (omega (arith, a.total)) u in
      let i : in_force check g f ≡ data_ops g c ms = planned f inv (Resume c) e ∙ ap (data_ops g c) a.left in (
        i ∙ sym (all_data geo c ms),
        way f inv (Resume c) (λ d. let z : ◌≡◌ {A = ℕ} 0 1 = cc in omega arith) (data_ops g c ms) i e
            (rest_short g p c ms (omega (arith, a.total, a.enough)))
            (amid a.enough (λ b k l q. h b k (λ m rest r. q m rest (a.left ∙ r)) ∙ a.sectors b k l)),
      )

  good_moves : (ms : List Move) {c : ℕ} {clean : Flash} → At g f₀ c ms clean
      → Good (in_force check g) (SameLengths f₀) (Way check g p f₀) keeps (data_chunks geo c ms) clean
  unfolding data_chunks done_chunk move_chunk
  good_moves [] {c} a =
      first refl (λ f l inv. follow_moves a f (subst (Under g c) (sym l) a.under) inv
      (λ b k q. ap (λ (x : Flash). sector_of g x b k) l)) over
  good_moves (m ∷ ms) {c} {clean} a =
      first refl (λ f l inv. follow_moves a f (under_wiped geo m.to f clean (one_less a.proper).0.writes l a.under) inv
      (λ b k q. sector_unwiped geo m.to b m.to_sector k f clean (q m ms refl) l))
      (good_moves ms (next geo sound f₀ a))

  -- the decision under B and C reads the slots alone
  same_decision : (f f' : Flash) → f.in0 ≡ f'.in0 → f.in1 ≡ f'.in1 → is_good (magic_of g (trailer g scratch f)) ≡ false
      → is_good (magic_of g (trailer g scratch f')) ≡ false → decide check g f ≡ decide check g f'
  unfolding decide asks trailer
  same_decision f f' e₀ e₁ q q' = rw (q, q') (ap₂ (λ x y. by_slots (record { in0 = x; in1 = y; in2 = [] })) e₀ e₁)
    where
      by_slots : Flash → Course
      by_slots f = judged (check (take (lent_bytes g).0 f.in1))
          (step_b g (trailer g slot0 f) (state_c g (trailer g slot0 f) (trailer g slot1 f)))

  step_a_taken : (f : Flash) → trailer g scratch f ≡ begun g p → decide check g f ≡ FromLineThree p
  unfolding decide asks judged
  step_a_taken f e = rw (e, begun_good geo p, step_a_lem geo p)

  started : Flash
  started = run_all g (lines_one_two g p) f₀

  chunks : List (Chunk g)
  chunks = begin_chunk geo p ∷ settle_chunk geo p ∷ data_chunks geo 3 g.moves

  settled_at : At g f₀ 3 g.moves (run_all g (lines_three_to_six g p) started)
  unfolding started moved
  settled_at =
      let z : (a : Area) → Sized g a started = λ a. sized_run g a (lines_one_two g p) f₀ (sized a) in
      record {
        enough = omega arith;
        left = refl;
        total = omega arith;
        proper = sound.proper;
        under = settled geo p started (z slot0) (z scratch);
        sized = λ a. sized_run g a (lines_three_to_six g p) started (z a);
        sectors = sector_settled geo p f₀;
      }

  follow_settle : (f : Flash) → wipe_both g f ≡ wipe_both g started → SameLengths f₀ f
      → (in_force check g f ≡ all_ops (settle_chunk geo p ∷ data_chunks geo 3 g.moves)) × Way check g p f₀ f
  unfolding started all_ops settle_chunk trailer list_of found_of
  follow_settle f l inv =
      let rest : List Op = lines_three_to_six g p ++ data_ops g 3 g.moves in
      let e : decide check g f ≡ FromLineThree p =
      step_a_taken f (ap (λ x. drop (start_of (geometry g) (trailer_sector g scratch)).0 x.in2) l ∙ trailer_begin geo p f₀ (sized scratch)) in
      let i : in_force check g f ≡ rest = planned f inv (FromLineThree p) e in (
        i ∙ ap (λ (x : List Op). lines_three_to_six g p ++ x) (sym (all_data geo 3 g.moves)),
        way f inv (FromLineThree p) (λ d. let z : ◌≡◌ {A = ℕ} 0 1 = cc in omega arith) rest i e (settle_short g p) (before (λ b k h.
            sector_both geo b k f started h l ∙ sector_same geo scratch b k started f₀ h (hidden_run (hidden_begin geo p) f₀))),
      )

  all_exchange : all_ops chunks ≡ exchange g p
  unfolding chunks all_ops begin_chunk settle_chunk exchange
  all_exchange = ap (λ (x : List Op). lines_one_two g p ++ (lines_three_to_six g p ++ x)) (all_data geo 3 g.moves)

  follow_begin : (f : Flash) → BeginLike g f f₀ → SameLengths f₀ f → (in_force check g f ≡ all_ops chunks) × Way check g p f₀ f
  follow_begin f l inv =
      let e : decide check g f ≡ course =
      same_decision f f₀ (ap (λ x. x.in0) l.alike) (ap (λ x. x.in1) l.alike) l.quiet quiet ∙ due in
      let i : in_force check g f ≡ exchange g p = planned f inv course e ∙ exchange_list g (ok_unset g f) which in (
        i ∙ sym all_exchange,
        way f inv course (no_damage which) (exchange g p) i e (omega arith)
            (subst (Where g f₀ f) (sym (not_found which)) (before (λ b k h. sector_same geo scratch b k f f₀ h l.alike))),
      )

  good_exchange : Good (in_force check g) (SameLengths f₀) (Way check g p f₀) keeps chunks f₀
  unfolding chunks begin_chunk settle_chunk started
  good_exchange =
      let l : BeginLike g f₀ f₀ = record { alike = refl; quiet = quiet; sized = sized scratch } in
      first {c = begin_chunk geo p} l follow_begin (first {c = settle_chunk geo p} refl follow_settle
      (good_moves g.moves settled_at))

  -- after any failures: the end of the exchange, and what holds on the way
  pub follows : {f : Flash} → Failures g (in_force check g) f₀ f
      → (run_all g (in_force check g f) f ≡ run_all g (exchange g p) f₀) × Way check g p f₀ f
  unfolding chunks SameLengths
  follows fs =
      rw (← all_exchange) (taken_up (in_force check g) (SameLengths f₀) (Way check g p f₀) keeps good_exchange (λ a. refl) fs)

  -- ---- starts one after the other

  -- with an allowance for a move and its mark: one for the trailer exchange, one for each move, one for copy done
  moves_within : (c : ℕ) (ms : List Move) → Within (per g + 2) (data_chunks geo c ms) (suc (length ms))
  unfolding data_chunks done_chunk move_chunk
  moves_within c [] = chunk {c = done_chunk geo} (omega arith) nothing
  moves_within c (m ∷ ms) = let n = length_move g c m in chunk {c = move_chunk geo c m} (omega arith) (moves_within (suc c) ms)

  pub follows_on : 384 * g.unit + 32 ≤ g.sector → {f : Flash} → Failures g (in_force check g) f₀ f
      → (bs : List ℕ) → All (λ (b : ℕ). per g + 2 ≤ b) bs → length g.moves + 2 ≤ length bs
      → FinishedBy g (in_force check g) (run_all g (exchange g p) f₀) bs f
  unfolding chunks begin_chunk settle_chunk SameLengths
  follows_on large fs bs hs l =
      rw (← all_exchange) (finishes_after (in_force check g) (SameLengths f₀) (Way check g p f₀) keeps (per g + 2) good_exchange
      (λ a. refl) (two {c = begin_chunk geo p} {d = settle_chunk geo p} (trailers_short geo large p) (moves_within 3 g.moves))
      fs bs hs (omega arith))

  -- with fewer: as long as a move is left, none comes past it
  moves_long : (c : ℕ) (ms : List Move) → LongToLast (per g + 1) (data_chunks geo c ms)
  unfolding data_chunks done_chunk move_chunk
  moves_long c [] = last {c = done_chunk geo} (omega arith)
  moves_long c (m ∷ ms) =
      let n = length_move g c m in earlier (this {c = move_chunk geo c m} (omega arith)) (moves_long (suc c) ms)

  pub follows_never : {m : Move} {ms : List Move} → g.moves ≡ m ∷ ms → {f : Flash} → Failures g (in_force check g) f₀ f
      → 1 < length (in_force check g f) → (bs : List ℕ) → All (λ (b : ℕ). b ≤ per g + 1) bs → AllStopped g (in_force check g) bs f
  unfolding chunks begin_chunk settle_chunk SameLengths data_chunks move_chunk
  follows_never {m} {ms} e fs l bs hs =
      let n = length_move g 3 m in
      let a_move : HasLong (per g + 1) (data_chunks geo 3 g.moves) =
      subst (λ (x : List Move). HasLong (per g + 1) (data_chunks geo 3 x)) (sym e)
      (this {c = move_chunk geo 3 m} {cs = data_chunks geo 4 ms} (omega arith)) in
      never_finishes_after (in_force check g) (SameLengths f₀) (Way check g p f₀) keeps (per g + 1) good_exchange (λ a. refl)
      (earlier (another {c = begin_chunk geo p} (another {c = settle_chunk geo p} a_move))
      (earlier (another {c = settle_chunk geo p} a_move) (moves_long 3 g.moves))) fs l bs hs
