-- Starts one after the other, each with an allowance of its own: how many it takes until a list that can be taken up again is done.
-- ---- what starts with an allowance of `most` operations need
use Rattle.std.specs.Prelude.{◌≡◌}
use Rattle.std.proofs.Common.{sym, ◌∙◌, arith}
use Rattle.std.proofs.Math.Path.{ap, subst}
use mathlib.Core.List.{List, [], ◌∷◌, ◌++◌}
use Prim.Native.Nat.{ℕ, suc, ◌+◌, ◌-◌, ◌≤◌, ◌<◌}
use Rattle.std.proofs.Math.Decide.{dec_le}
use Rattle.std.proofs.Math.ListN.{length, length-append}
use Rattle.flash.specs.Build.{Build, Flash}
use Rattle.flash.specs.Operations.{Op, run, run_all}
use Rattle.flash.specs.Harm.{Cut}
use Rattle.recovery.specs.All.{All, none, one}
use Rattle.recovery.specs.Cuts.{run_all_lem, run_past, run_within, stopped_cut, run_all_append}
use Rattle.recovery.specs.Statement.{Failures, FinishedBy, at_last, once_more, AllStopped, no_more, once_more_stopped}
use Rattle.recovery.proofs.Chunks.{all_left, past, stage}
use Rattle.recovery.proofs.Chunks.{Chunk, all_ops, LeftOf, Good, Stage, begins, plans, later_on, cut_chunks}

-- so many starts: one for each chunk, or for two that follow one another and are short
pub data Within {g : Build} (most : ℕ) : List (Chunk g) → ℕ → Type 1 where
  nothing : Within most [] 0
  chunk : {c : Chunk g} {cs : List (Chunk g)} {n : ℕ} → length c.ops ≤ most → Within most cs n → Within most (c ∷ cs) (suc n)
  two : {c d : Chunk g} {cs : List (Chunk g)} {n : ℕ} → length c.ops + length d.ops ≤ most → Within most cs n
      → Within most (c ∷ d ∷ cs) (suc n)

-- what is left of the chunks needs no more
record LeftWithin {g : Build} (most : ℕ) (cs : List (Chunk g)) (n : ℕ) : Type 1 where
  starts : ℕ
  fewer : starts ≤ n
  within : Within most cs starts

left_within : {g : Build} {most n : ℕ} {cs ds : List (Chunk g)} → LeftOf cs ds → Within most ds n → LeftWithin most cs n
left_within {g} {most} = go
  where
    go : {cs ds : List (Chunk g)} {n : ℕ} → LeftOf cs ds → Within most ds n → LeftWithin most cs n
    go {n = n} all_left w = record { starts = n; fewer = omega arith; within = w }
    go (past l) (chunk h w) =
        let r = go l w in record { starts = r.starts; fewer = omega (arith, r.fewer); within = r.within }
    go (past all_left) (two {c} {d} {n = n} h w) =
        let short : length d.ops ≤ most = omega arith in
        record { starts = suc n; fewer = omega arith; within = chunk short w }
    go (past (past l)) (two h w) =
        let r = go l w in record { starts = r.starts; fewer = omega (arith, r.fewer); within = r.within }

-- a chunk of more operations is among them
pub data HasLong {g : Build} (most : ℕ) : List (Chunk g) → Type 1 where
  this : {c : Chunk g} {cs : List (Chunk g)} → most < length c.ops → HasLong most (c ∷ cs)
  another : {c : Chunk g} {cs : List (Chunk g)} → HasLong most cs → HasLong most (c ∷ cs)

long : {g : Build} {most : ℕ} {cs : List (Chunk g)} → HasLong most cs → most < length (all_ops cs)
unfolding all_ops
long (this {c} {cs} h) = rw (length-append c.ops (all_ops cs)) (omega arith)
long (another {c} {cs} h) = let n = long h in rw (length-append c.ops (all_ops cs)) (omega arith)

-- a long one is left as long as more is left than a last chunk of one operation
pub data LongToLast {g : Build} (most : ℕ) : List (Chunk g) → Type 1 where
  last : {c : Chunk g} → length c.ops ≤ 1 → LongToLast most (c ∷ [])
  earlier : {c : Chunk g} {cs : List (Chunk g)} → HasLong most (c ∷ cs) → LongToLast most cs → LongToLast most (c ∷ cs)

left_long : {g : Build} {most : ℕ} {c : Chunk g} {cs ds : List (Chunk g)} → LeftOf (c ∷ cs) ds → LongToLast most ds
    → 1 < length (all_ops (c ∷ cs)) → HasLong most (c ∷ cs)
unfolding all_ops
left_long all_left (last {c} h) l = absurd (omega (arith, simp length-append at l))
left_long all_left (earlier h t) l = h
left_long (past all_left) (earlier h t) l = left_long all_left t l
left_long (past (past m)) (earlier h t) l = left_long (past m) t l

module _ {g : Build} (plan : Flash → List Op) (Inv Holds : Flash → Type 0)
    (keeps : (ops : List Op) (f f' : Flash) → Cut g ops f f' → Inv f → Inv f') (most : ℕ) where
  -- ---- where a start leads

  -- what is left after the first of some chunks, begun again at f
  after_first : (c : Chunk g) (cs : List (Chunk g)) {clean f : Flash} (b : ℕ) → c.Like f clean → length c.ops ≤ b
      → run g b (all_ops (c ∷ cs)) f ≡ run g (b - length c.ops) (all_ops cs) (run_all g c.ops clean)
  unfolding all_ops
  after_first c cs {clean} {f} b like h =
      run_past g b c.ops (all_ops cs) f h ∙ ap (run g (b - length c.ops) (all_ops cs)) (c.works f clean like)

  -- the first chunk done, and another operation is due
  still : (c : Chunk g) (cs : List (Chunk g)) {clean f : Flash} → c.Like f clean → Inv f → 0 < length (all_ops cs)
      → Inv (run_all g c.ops clean)
  unfolding all_ops
  still c cs {clean} {f} like inv l =
      let n : ℕ = length c.ops in
      let k : Cut g (c.ops ++ all_ops cs) f (run g n (c.ops ++ all_ops cs) f) =
      stopped_cut g n (c.ops ++ all_ops cs) f (rw (length-append c.ops (all_ops cs)) (omega arith)) in
      subst Inv (run_within g n c.ops (all_ops cs) f (omega arith) ∙ run_all_lem g n c.ops f (omega arith) ∙ c.works f clean like)
      (keeps (c.ops ++ all_ops cs) f (run g n (c.ops ++ all_ops cs) f) k inv)

  -- a start that reaches to the end of the first chunk leaves fewer of them
  past_first : (cs : List (Chunk g)) {c : Chunk g} {clean f end : Flash} (b : ℕ) → Good plan Inv Holds keeps (c ∷ cs) clean
      → c.Like f clean → Inv f → run_all g (all_ops (c ∷ cs)) clean ≡ end → length c.ops ≤ b → b < length (all_ops (c ∷ cs))
      → Stage plan Inv Holds keeps cs end (run g b (all_ops (c ∷ cs)) f)
  unfolding all_ops
  past_first [] {c} b good like inv e h l = absurd (omega (arith, simp length-append at l))
  past_first (d ∷ cs) {c} {clean} {f} {end} b good like inv e h l =
      let rest : List Op = all_ops (d ∷ cs) in
      let next : Flash = run_all g c.ops clean in
      let f' : Flash = run g b (c.ops ++ rest) f in
      let n : length (c.ops ++ rest) ≡ length c.ops + length rest = length-append c.ops rest in
      let k : Cut g rest next (run g (b - length c.ops) rest next) = stopped_cut g (b - length c.ops) rest next (omega arith) in
      cut_chunks plan Inv Holds keeps end cs d next next f' (later_on plan Inv Holds keeps good)
      (begins plan Inv Holds keeps (later_on plan Inv Holds keeps good))
      (keeps (c.ops ++ rest) f f' (stopped_cut g b (c.ops ++ rest) f l) inv)
      (sym (run_all_append g c.ops rest clean) ∙ e)
      (subst (λ (x : Flash). Cut g rest next x) (sym (after_first c (d ∷ cs) b like h)) k)

  -- and one that reaches to the end of the second
  past_second : (cs : List (Chunk g)) {c d : Chunk g} {clean f end : Flash} (b : ℕ) → Good plan Inv Holds keeps (c ∷ d ∷ cs) clean
      → c.Like f clean → Inv f → run_all g (all_ops (c ∷ d ∷ cs)) clean ≡ end → length c.ops + length d.ops ≤ b
      → b < length (all_ops (c ∷ d ∷ cs)) → Stage plan Inv Holds keeps cs end (run g b (all_ops (c ∷ d ∷ cs)) f)
  unfolding all_ops
  past_second cs {c} {d} {clean} {f} {end} b good like inv e h l =
      let rest : List Op = all_ops (d ∷ cs) in
      let n : length (c.ops ++ rest) ≡ length c.ops + length rest = length-append c.ops rest in
      let good' = later_on plan Inv Holds keeps good in
      subst (Stage plan Inv Holds keeps cs end) (sym (after_first c (d ∷ cs) b like (omega arith)))
      (past_first cs (b - length c.ops) good' (begins plan Inv Holds keeps good') (still c (d ∷ cs) like inv (omega arith))
      (sym (run_all_append g c.ops rest clean) ∙ e) (omega arith) (omega arith))

  -- ---- enough starts

  -- one start: to the end, or to where some chunks are left
  one_start : (ds : List (Chunk g)) {c : Chunk g} {cs : List (Chunk g)} {clean f end : Flash} (b : ℕ) (bs : List ℕ)
      → Good plan Inv Holds keeps (c ∷ cs) clean → c.Like f clean → Inv f → run_all g (all_ops (c ∷ cs)) clean ≡ end
      → (b < length (all_ops (c ∷ cs)) → Stage plan Inv Holds keeps ds end (run g b (all_ops (c ∷ cs)) f))
      → ((f' : Flash) → Stage plan Inv Holds keeps ds end f' → FinishedBy g plan end bs f') → FinishedBy g plan end (b ∷ bs) f
  unfolding all_ops
  one_start ds {c} {cs} {clean} {f} {end} b bs good like inv e reach more = go (dec_le (length all) b)
    where
      all : List Op
      all = all_ops (c ∷ cs)

      planned : plan f ≡ all
      planned = (plans plan Inv Holds keeps good f like inv).0

      works : run_all g all f ≡ end
      works =
          run_all_append g c.ops (all_ops cs) f ∙ ap (run_all g (all_ops cs)) (c.works f clean like)
          ∙ sym (run_all_append g c.ops (all_ops cs) clean) ∙ e

      go : Dec (length all ≤ b) → FinishedBy g plan end (b ∷ bs) f
      go (yes enough) =
          let q : length (plan f) ≤ b = rw planned enough in
          let r : run g b (plan f) f ≡ end = rw planned (run_all_lem g b all f enough ∙ works) in
          at_last q r
      go (no short) =
          let q : b < length (plan f) = rw planned (omega arith) in
          let r : FinishedBy g plan end bs (run g b (plan f) f) = rw planned (more (run g b all f) (reach (omega arith))) in
          once_more q r

  -- so many starts, each with such an allowance, come to the end
  pub finishes : (bs : List ℕ) → All (λ (b : ℕ). most ≤ b) bs → {c : Chunk g} {cs : List (Chunk g)} {n : ℕ} {clean f end : Flash}
      → Good plan Inv Holds keeps (c ∷ cs) clean → c.Like f clean → Inv f → run_all g (all_ops (c ∷ cs)) clean ≡ end
      → Within most (c ∷ cs) n → n ≤ length bs → FinishedBy g plan end bs f
  finishes [] none good like inv e (chunk m w) l = absurd (omega arith)
  finishes [] none good like inv e (two m w) l = absurd (omega arith)
  finishes (b ∷ bs) (one h hs) good like inv e (chunk {cs = cs} m w) l =
      one_start cs b bs good like inv e (λ q. past_first cs b good like inv e (omega arith) q) (λ f' s.
      let r = left_within s.left w in
      finishes bs hs s.good s.like s.inv s.ends r.within (omega (arith, r.fewer)))
  finishes (b ∷ bs) (one h hs) good like inv e (two {cs = cs} m w) l =
      one_start cs b bs good like inv e (λ q. past_second cs b good like inv e (omega arith) q) (λ f' s.
      let r = left_within s.left w in
      finishes bs hs s.good s.like s.inv s.ends r.within (omega (arith, r.fewer)))

  -- after any failures too
  pub finishes_after : {c : Chunk g} {cs : List (Chunk g)} {n : ℕ} {f₀ : Flash} → Good plan Inv Holds keeps (c ∷ cs) f₀ → Inv f₀
      → Within most (c ∷ cs) n → {f : Flash} → Failures g plan f₀ f
      → (bs : List ℕ) → All (λ (b : ℕ). most ≤ b) bs → n ≤ length bs
      → FinishedBy g plan (run_all g (all_ops (c ∷ cs)) f₀) bs f
  finishes_after good inv w fs bs hs l =
      let s = stage plan Inv Holds keeps good inv fs in
      let r = left_within s.left w in
      finishes bs hs s.good s.like s.inv s.ends r.within (omega (arith, r.fewer))

  -- ---- starts that are too short

  -- f is met in the first of the chunks that are left, and a long one is among them
  record Behind (f : Flash) : Type 1 where
    chunk : Chunk g
    rest : List (Chunk g)
    clean : Flash
    good : Good plan Inv Holds keeps (chunk ∷ rest) clean
    like : chunk.Like f clean
    inv : Inv f
    has_long : HasLong most (chunk ∷ rest)

  -- a start that ends within the first chunk
  amid : (cs : List (Chunk g)) {c : Chunk g} {clean f : Flash} (b : ℕ) → Good plan Inv Holds keeps (c ∷ cs) clean → c.Like f clean
      → Inv f → HasLong most (c ∷ cs) → b < length c.ops → Behind (run g b (all_ops (c ∷ cs)) f)
  unfolding all_ops
  amid cs {c} {clean} {f} b good like inv l h =
      let k : Cut g c.ops f (run g b c.ops f) = stopped_cut g b c.ops f h in
      rw (run_within g b c.ops (all_ops cs) f (omega arith)) record {
        chunk = c;
        rest = cs;
        clean = clean;
        good = good;
        like = c.stays f clean (run g b c.ops f) like k;
        inv = keeps c.ops f (run g b c.ops f) k inv;
        has_long = l;
      }

  -- a start with such an allowance does not come past the long one
  stays_behind : (cs : List (Chunk g)) {c : Chunk g} {clean f : Flash} (b : ℕ) → b ≤ most → Good plan Inv Holds keeps (c ∷ cs) clean
      → c.Like f clean → Inv f → HasLong most (c ∷ cs) → Behind (run g b (all_ops (c ∷ cs)) f)
  unfolding all_ops
  stays_behind cs b h good like inv (this m) = amid cs b good like inv (this m) (omega arith)
  stays_behind [] b h good like inv (another l) = absurd (omega (arith, long l))
  stays_behind (d ∷ cs) {c} {clean} {f} b h good like inv (another l) = go (dec_le (length c.ops) b)
      (λ q. stays_behind cs (b - length c.ops) (omega arith) (later_on plan Inv Holds keeps good)
      (begins plan Inv Holds keeps (later_on plan Inv Holds keeps good))
      (still c (d ∷ cs) like inv (let n = long l in omega arith)) l)
    where
      go : Dec (length c.ops ≤ b)
          → (length c.ops ≤ b → Behind (run g (b - length c.ops) (all_ops (d ∷ cs)) (run_all g c.ops clean)))
          → Behind (run g b (all_ops (c ∷ d ∷ cs)) f)
      go (no short) further = amid (d ∷ cs) b good like inv (another l) (omega arith)
      go (yes enough) further = subst Behind (sym (after_first c (d ∷ cs) b like enough)) (further enough)

  -- and so however many they are
  never_finishes : (bs : List ℕ) → All (λ (b : ℕ). b ≤ most) bs → {f : Flash} → Behind f → AllStopped g plan bs f
  never_finishes [] none s = no_more
  never_finishes (b ∷ bs) (one h hs) {f} s =
      let all : List Op = all_ops (s.chunk ∷ s.rest) in
      let planned : plan f ≡ all = (plans plan Inv Holds keeps s.good f s.like s.inv).0 in
      let l : b < length (plan f) = rw planned (omega (arith, long s.has_long)) in
      let r : AllStopped g plan bs (run g b (plan f) f) =
      rw planned (never_finishes bs hs (stays_behind s.rest b h s.good s.like s.inv s.has_long)) in
      once_more_stopped l r

  -- after any failures, as long as more is left than the last operation
  pub never_finishes_after : {c : Chunk g} {cs : List (Chunk g)} {f₀ : Flash} → Good plan Inv Holds keeps (c ∷ cs) f₀ → Inv f₀
      → LongToLast most (c ∷ cs) → {f : Flash} → Failures g plan f₀ f → 1 < length (plan f)
      → (bs : List ℕ) → All (λ (b : ℕ). b ≤ most) bs → AllStopped g plan bs f
  never_finishes_after good inv t {f} fs l bs hs =
      let s = stage plan Inv Holds keeps good inv fs in
      let planned : plan f ≡ all_ops (s.chunk ∷ s.rest) = (plans plan Inv Holds keeps s.good f s.like s.inv).0 in
      let more : 1 < length (all_ops (s.chunk ∷ s.rest)) = rw planned at l in
      never_finishes bs hs record {
        chunk = s.chunk;
        rest = s.rest;
        clean = s.clean;
        good = s.good;
        like = s.like;
        inv = s.inv;
        has_long = left_long s.left t more;
      }
