-- What is written is accepted.
use Rattle.std.specs.Prelude.{◌≡◌, ℕ, ◌<◌, List, length, Ok}
use Rattle.causes.specs.Check.{check}
use Rattle.causes.specs.Written.{Unread, written, written_image}
use Rattle.causes.proofs.Theorem.{accepts_images}

module _ (u : Unread) (sixteen : length u.from_16 ≡ 16) (body rest : List ℕ) where
  pub written_accepted : length body < 4294967296 → check (written u body rest) ≡ Ok tt
  written_accepted short = accepts_images (written u body rest) (written_image u sixteen body rest short)
