-- Lists of operations that can be cut anywhere and taken up again: proved once, for any decision and any chunks.
use Rattle.std.specs.Prelude.{◌≡◌, refl, ◌⊎◌}
use Rattle.std.proofs.Math.Path.{sym, ap}
use Rattle.std.proofs.Common.{◌∙◌, subst, inl, inr}
use mathlib.Core.List.{List, [], ◌∷◌, ◌++◌}
use Rattle.flash.specs.Build.{Build, Flash}
use Rattle.flash.specs.Operations.{Op, run_all}
use Rattle.flash.specs.Harm.{Cut}
use Rattle.recovery.specs.Cuts.{run_all_append, cut_append, cut_nil}
use Rattle.recovery.specs.Statement.{Failures, never, again}

-- A chunk can be begun again wherever it is cut. `Like f clean`: f is what a cut in the chunk, begun at clean, may leave.
pub record Chunk (g : Build) : Type 1 where
  pub ops : List Op
  pub Like : Flash → Flash → Type 0
  pub stays : (f clean f' : Flash) → Like f clean → Cut g ops f f' → Like f' clean
  pub works : (f clean : Flash) → Like f clean → run_all g ops f ≡ run_all g ops clean

unfoldable pub all_ops : {g : Build} → List (Chunk g) → List Op
all_ops [] = []
all_ops (c ∷ cs) = c.ops ++ all_ops cs

-- what is left of some chunks once the first are done
pub data LeftOf {g : Build} (cs : List (Chunk g)) : List (Chunk g) → Type 1 where
  all_left : LeftOf cs cs
  past : {d : Chunk g} {ds : List (Chunk g)} → LeftOf cs ds → LeftOf cs (d ∷ ds)

left_later : {g : Build} {xs ys zs : List (Chunk g)} → LeftOf xs ys → LeftOf ys zs → LeftOf xs zs
left_later l all_left = l
left_later l (past m) = past (left_later l m)

-- Inv holds throughout because no operation, done or torn, can break it; Holds is what is wanted of each flash on the way.
module _ {g : Build} (plan : Flash → List Op) (Inv Holds : Flash → Type 0)
    (keeps : (ops : List Op) (f f' : Flash) → Cut g ops f f' → Inv f → Inv f') where
  -- from a clean flash the plan is all the chunks, from what a cut in the first leaves too; and so for the rest, once the first is
  -- done
  pub data Good : List (Chunk g) → Flash → Type 1 where
    over : {f : Flash} → Good [] f
    first : {c : Chunk g} {cs : List (Chunk g)} {clean : Flash} → c.Like clean clean
        → ((f : Flash) → c.Like f clean → Inv f → (plan f ≡ all_ops (c ∷ cs)) × Holds f)
        → Good cs (run_all g c.ops clean) → Good (c ∷ cs) clean

  -- f is met in the first of the chunks that are left of `all`
  pub record Stage (all : List (Chunk g)) (end f : Flash) : Type 1 where
    pub chunk : Chunk g
    pub rest : List (Chunk g)
    pub clean : Flash
    pub left : LeftOf (chunk ∷ rest) all
    pub good : Good (chunk ∷ rest) clean
    pub like : chunk.Like f clean
    pub inv : Inv f
    pub ends : run_all g (all_ops (chunk ∷ rest)) clean ≡ end

  pub begins : {c : Chunk g} {cs : List (Chunk g)} {f : Flash} → Good (c ∷ cs) f → c.Like f f
  begins (first l p q) = l

  pub plans : {c : Chunk g} {cs : List (Chunk g)} {clean : Flash} → Good (c ∷ cs) clean → (f : Flash) → c.Like f clean → Inv f
      → (plan f ≡ all_ops (c ∷ cs)) × Holds f
  plans (first l p q) = p

  pub later_on : {c : Chunk g} {cs : List (Chunk g)} {clean : Flash} → Good (c ∷ cs) clean → Good cs (run_all g c.ops clean)
  later_on (first l p q) = q

  one_more : {all : List (Chunk g)} {c : Chunk g} {end f : Flash} → Stage all end f → Stage (c ∷ all) end f
  one_more s = record {
    chunk = s.chunk;
    rest = s.rest;
    clean = s.clean;
    left = past s.left;
    good = s.good;
    like = s.like;
    inv = s.inv;
    ends = s.ends;
  }

  pub cut_chunks : (end : Flash) (cs : List (Chunk g)) (c : Chunk g) (clean f f' : Flash) → Good (c ∷ cs) clean → c.Like f clean
      → Inv f'
      → run_all g (all_ops (c ∷ cs)) clean ≡ end → Cut g (all_ops (c ∷ cs)) f f' → Stage (c ∷ cs) end f'
  unfolding all_ops
  cut_chunks end [] c clean f f' good like inv e k = go (cut_append c.ops [] k)
    where
      go : Cut g c.ops f f' ⊎ Cut g [] (run_all g c.ops f) f' → Stage (c ∷ []) end f'
      go (inl k) = record {
        chunk = c;
        rest = [];
        clean = clean;
        left = all_left;
        good = good;
        like = c.stays f clean f' like k;
        inv = inv;
        ends = e;
      }
      go (inr k) = absurd (cut_nil k)
  cut_chunks end (d ∷ cs) c clean f f' good like inv e k = go (cut_chunks end cs d (run_all g c.ops clean))
      (cut_append c.ops (all_ops (d ∷ cs)) k)
    where
      go : ((f f' : Flash) → Good (d ∷ cs) (run_all g c.ops clean) → d.Like f (run_all g c.ops clean) → Inv f'
          → run_all g (all_ops (d ∷ cs)) (run_all g c.ops clean) ≡ end → Cut g (all_ops (d ∷ cs)) f f' → Stage (d ∷ cs) end f')
          → Cut g c.ops f f' ⊎ Cut g (all_ops (d ∷ cs)) (run_all g c.ops f) f' → Stage (c ∷ d ∷ cs) end f'
      go ih (inl k) = record {
        chunk = c;
        rest = d ∷ cs;
        clean = clean;
        left = all_left;
        good = good;
        like = c.stays f clean f' like k;
        inv = inv;
        ends = e;
      }
      go ih (inr k) = one_more (ih (run_all g c.ops clean) f' (later_on good) (begins (later_on good)) inv
          (sym (run_all_append g c.ops (all_ops (d ∷ cs)) clean) ∙ e)
          (subst (λ (x : Flash). Cut g (all_ops (d ∷ cs)) x f') (c.works f clean like) k))

  further : {all : List (Chunk g)} {end f f' : Flash} (s : Stage all end f) → Stage (s.chunk ∷ s.rest) end f' → Stage all end f'
  further s t = record {
    chunk = t.chunk;
    rest = t.rest;
    clean = t.clean;
    left = left_later t.left s.left;
    good = t.good;
    like = t.like;
    inv = t.inv;
    ends = t.ends;
  }

  module _ {c : Chunk g} {cs : List (Chunk g)} {f₀ : Flash} (good : Good (c ∷ cs) f₀) (inv : Inv f₀) where
    abbrev end : Flash
    end = run_all g (all_ops (c ∷ cs)) f₀

    pub stage : {f : Flash} → Failures g plan f₀ f → Stage (c ∷ cs) end f
    stage never = record { chunk = c; rest = cs; clean = f₀; left = all_left; good = good; like = begins good; inv = inv; ends = refl }
    stage (again {f₁} {f₂} fs k) =
        let s : Stage (c ∷ cs) end f₁ = stage fs in
        further s (cut_chunks end s.rest s.chunk s.clean f₁ f₂ s.good s.like
        (keeps (plan f₁) f₁ f₂ k s.inv) s.ends
        (subst (λ (x : List Op). Cut g x f₁ f₂) (plans s.good f₁ s.like s.inv).0 k))

    -- after any failures the plan comes to the same end, and what is wanted holds
    pub taken_up : {f : Flash} → Failures g plan f₀ f → (run_all g (plan f) f ≡ run_all g (all_ops (c ∷ cs)) f₀) × Holds f
    unfolding all_ops
    taken_up {f} fs =
        let s : Stage (c ∷ cs) end f = stage fs in
        let h : (plan f ≡ all_ops (s.chunk ∷ s.rest)) × Holds f = plans s.good f s.like s.inv in (
          ap (λ (x : List Op). run_all g x f) h.0
              ∙ run_all_append g s.chunk.ops (all_ops s.rest) f
              ∙ ap (run_all g (all_ops s.rest)) (s.chunk.works f s.clean s.like)
              ∙ sym (run_all_append g s.chunk.ops (all_ops s.rest) s.clean) ∙ s.ends,
          h.1,
        )
