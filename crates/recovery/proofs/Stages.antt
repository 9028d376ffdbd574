-- The chunks of an exchange.
use Rattle.std.specs.Prelude.{◌≡◌, ◌⊎◌, Bool, false, ℕ, suc}
use Rattle.std.proofs.Math.Path.{refl, ap}
use Rattle.std.proofs.Common.{sym, ◌∙◌, inl, inr}
use mathlib.Core.List.{List, [], ◌∷◌, ◌++◌, append_assoc}
use Rattle.flash.specs.Build.{slot0, scratch, Build, Move, Flash}
use Rattle.flash.specs.Operations.{Op, run_all}
use Rattle.flash.specs.Harm.{Cut, here, later}
use Rattle.trailer.specs.Trailer.{trailer, copy_done_at, mark_at, magic_of, is_good}
use Rattle.plan.specs.Lists.{erase_trailer, mark, progress, lines_one_two, lines_three_to_six, move_ops, data_ops}
use Rattle.recovery.specs.Cuts.{cut_nil, run_all_append, cut_append}
use Rattle.recovery.specs.Windows.{hidden_run, hidden_cut, wipe}
use Rattle.recovery.specs.Places.{Geo, Sized, done_unit, mark_unit, clear_whole, mark_whole}
use Rattle.recovery.specs.Hiding.{wipe_trailer, hidden_begin, hidden_move, move_run}
use Rattle.recovery.specs.Begin.{sized_cut, cut_begin, begin_run}
use Rattle.recovery.specs.Settling.{wipe_both, line5, settling, settle_run, hidden_settling}
use Rattle.recovery.proofs.Chunks.{Chunk, all_ops}

-- lines 1 and 2: cut, they leave anything in scratch's trailer sector but a good magic
pub record BeginLike (g : Build) (f clean : Flash) : Type 0 where
  pub alike : wipe_trailer g scratch f ≡ wipe_trailer g scratch clean
  pub quiet : is_good (magic_of g (trailer g scratch f)) ≡ false
  pub sized : Sized g scratch f

module _ {g : Build} (geo : Geo g) where
  unfoldable pub begin_chunk : Bool → Chunk g
  begin_chunk p = record {
    ops = lines_one_two g p;
    Like = BeginLike g;
    stays = λ f clean f' l k. record {
      alike = hidden_cut (hidden_begin geo p) k ∙ l.alike;
      quiet = cut_begin geo p l.sized l.quiet k;
      sized = sized_cut g scratch (lines_one_two g p) f f' k l.sized;
    };
    works = λ f clean l. begin_run g p f clean l.alike;
  }

  -- lines 3 to 6: cut, they leave anything in the slots' trailer sectors
  unfoldable pub settle_chunk : Bool → Chunk g
  unfolding lines_three_to_six settling line5
  settle_chunk p = record {
    ops = lines_three_to_six g p;
    Like = λ f clean. wipe_both g f ≡ wipe_both g clean;
    stays = λ f clean f' l k. stays f f' (cut_append (settling g p) (erase_trailer g scratch ∷ []) k) ∙ l;
    works = settle_run g p;
  }
    where
      stays : (f f' : Flash) → Cut g (settling g p) f f' ⊎ Cut g (erase_trailer g scratch ∷ []) (run_all g (settling g p) f) f'
          → wipe_both g f' ≡ wipe_both g f
      stays f f' (inl k) = hidden_cut (hidden_settling geo p) k
      stays f f' (inr (here t)) = ap (wipe_both g) (clear_whole geo scratch t) ∙ hidden_run (hidden_settling geo p) f
      stays f f' (inr (later k)) = absurd (cut_nil k)

  -- a move and its mark: cut, they leave anything in the move's target
  unfoldable pub move_chunk : ℕ → Move → Chunk g
  move_chunk c m = record {
    ops = move_ops g m ++ (progress g c ∷ []);
    Like = λ f clean. wipe g m.to m.to_sector f ≡ wipe g m.to m.to_sector clean;
    stays = λ f clean f' l k. stays f f' (cut_append (move_ops g m) (progress g c ∷ []) k) ∙ l;
    works = λ f clean l. run_all_append g (move_ops g m) (progress g c ∷ []) f
        ∙ ap (run_all g (progress g c ∷ [])) (move_run g m f clean l)
        ∙ sym (run_all_append g (move_ops g m) (progress g c ∷ []) clean);
  }
    where
      stays : (f f' : Flash) → Cut g (move_ops g m) f f' ⊎ Cut g (progress g c ∷ []) (run_all g (move_ops g m) f) f'
          → wipe g m.to m.to_sector f' ≡ wipe g m.to m.to_sector f
      stays f f' (inl k) = hidden_cut (hidden_move geo m) k
      stays f f' (inr (here t)) =
          ap (wipe g m.to m.to_sector) (mark_whole geo slot0 (mark_at g c) (g.value c) (mark_unit geo c) t)
          ∙ hidden_run (hidden_move geo m) f
      stays f f' (inr (later k)) = absurd (cut_nil k)

  -- copy done: it is written, or it is not
  unfoldable pub done_chunk : Chunk g
  done_chunk = record {
    ops = mark g slot0 (copy_done_at g) 1 ∷ [];
    Like = λ f clean. f ≡ clean;
    stays = λ f clean f' l k. stays f f' k ∙ l;
    works = λ f clean l. ap (run_all g (mark g slot0 (copy_done_at g) 1 ∷ [])) l;
  }
    where
      stays : (f f' : Flash) → Cut g (mark g slot0 (copy_done_at g) 1 ∷ []) f f' → f' ≡ f
      stays f f' (here t) = mark_whole geo slot0 (copy_done_at g) 1 (done_unit geo) t
      stays f f' (later k) = absurd (cut_nil k)

  unfoldable pub data_chunks : ℕ → List Move → List (Chunk g)
  data_chunks c [] = done_chunk ∷ []
  data_chunks c (m ∷ ms) = move_chunk c m ∷ data_chunks (suc c) ms

  pub all_data : (c : ℕ) (ms : List Move) → all_ops (data_chunks c ms) ≡ data_ops g c ms
  unfolding data_chunks all_ops data_ops done_chunk move_chunk
  all_data c [] = refl
  all_data c (m ∷ ms) =
      append_assoc (move_ops g m) (progress g c ∷ []) (all_ops (data_chunks (suc c) ms))
      ∙ ap (λ (x : List Op). move_ops g m ++ (progress g c ∷ x)) (all_data (suc c) ms)
