-- Magic as code reads it: compared with the words, then with 0xff.
use Rattle.std.specs.Prelude.{◌≡◌, refl, List, true, false, ℕ, length}
use Rattle.std.proofs.Math.Path.{sym}
use Rattle.std.proofs.Common.{ap, ap₂, ◌∙◌}
use Rattle.spans.specs.Bytes.{part, blank, same}
use Rattle.flash.specs.declared.Offset.{Offset}
use Rattle.flash.specs.Build.{Build}
use Rattle.trailer.specs.declared.Magic.{Magic}
use Rattle.trailer.specs.Trailer.{magic_at, magic_bytes, magic_of}

pub length_magic : length magic_bytes ≡ 16
unfolding magic_bytes
length_magic = refl

-- the magic, by what stands at its place
module _ (g : Build) (t : List ℕ) (at : Offset) (want : List ℕ) (place : at ≡ magic_at g) (words : want ≡ magic_bytes) where
  good_at : same (part t at.0 (length want)) want ≡ same (part t (magic_at g).0 16) magic_bytes
  good_at =
      ap₂ (λ (o : Offset) (w : List ℕ). same (part t o.0 (length w)) w) place words
      ∙ ap (λ (n : ℕ). same (part t (magic_at g).0 n) magic_bytes) length_magic

  pub magic_good : same (part t at.0 (length want)) want ≡ true → Magic.Good ≡ magic_of g t
  unfolding magic_of
  magic_good h = rw (sym good_at ∙ h)

  unset_at : same (part t at.0 16) (blank 16) ≡ same (part t (magic_at g).0 16) (blank 16)
  unset_at = ap (λ (o : Offset). same (part t o.0 16) (blank 16)) place

  pub magic_unset : same (part t at.0 (length want)) want ≡ false → same (part t at.0 16) (blank 16) ≡ true
      → Magic.Unset ≡ magic_of g t
  unfolding magic_of
  magic_unset h u = rw (sym good_at ∙ h, sym unset_at ∙ u)

  pub magic_bad : same (part t at.0 (length want)) want ≡ false → same (part t at.0 16) (blank 16) ≡ false
      → Magic.Bad ≡ magic_of g t
  unfolding magic_of
  magic_bad h u = rw (sym good_at ∙ h, sym unset_at ∙ u)
