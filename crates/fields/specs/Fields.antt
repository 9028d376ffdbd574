-- Document 01, "Image": how a field of so many bytes is read.
use Rattle.std.specs.Prelude.{List, [], ◌∷◌, ℕ, ◌+◌, ◌*◌}
use Rattle.spans.specs.Bytes.{part}

-- "All fields little endian": the number that bytes stand for, the lowest first
unfoldable pub little : List ℕ → ℕ
little [] = 0
little (b ∷ bs) = b + 256 * little bs

-- a field of so many bytes at a place
unfoldable pub field : List ℕ → ℕ → ℕ → ℕ
field xs at size = little (part xs at size)
