-- How many bytes are unsent, as it is counted.
use Rattle.std.specs.Prelude.{ℕ, ◌%◌, ◌^◌}

-- A count of bytes in a word of the processor, which goes round at more bytes than any memory holds:
-- below that it is their number.
unfoldable pub rounded : ℕ → ℕ
rounded bytes = bytes % 2 ^ 64
