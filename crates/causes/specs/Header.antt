-- Document 01, "Image": the header's fields, the three sizes, and the area of the trailing records.
use Rattle.std.specs.Prelude.{List, ℕ, ◌+◌}
use Rattle.spans.specs.Bytes.{part}
use Rattle.fields.specs.Fields.{field}

-- "magic 96f3b83c at 0"
abbrev pub magic_number : ℕ
magic_number = 2532554812

unfoldable pub header_magic : List ℕ → ℕ
header_magic xs = field xs 0 4

-- "size of the trailing records at 4 (2 bytes)"
unfoldable pub records_size : List ℕ → ℕ
records_size xs = field xs 4 2

-- "header size at 8 (2)"
unfoldable pub header_size : List ℕ → ℕ
header_size xs = field xs 8 2

-- "body size at 12 (4)"
unfoldable pub body_size : List ℕ → ℕ
body_size xs = field xs 12 4

-- The digest "covers header and body". "The trailing records follow the body directly".
unfoldable pub covered_size : List ℕ → ℕ
covered_size xs = header_size xs + body_size xs

-- the three sizes together
unfoldable pub image_size : List ℕ → ℕ
image_size xs = covered_size xs + records_size xs

unfoldable pub records_area : List ℕ → List ℕ
records_area xs = part xs (covered_size xs) (records_size xs)
