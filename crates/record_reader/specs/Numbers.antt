-- Document 01, "Image": what stands at a place of the trailing records, in numbers: "a definition gives this paper's number and values for
-- each of its cases".
use Rattle.records.specs.declared.Step.{Step}
use Rattle.records.specs.declared.Step.TheVariants.{End, Stump, Record}
use Rattle.record_reader.specs.declared.numbers.RecordNumbers.{RecordNumbers}

-- 0 where the area ends, 1 for a record, 2 for bytes that make no whole record
unfoldable pub step_numbers : Step → RecordNumbers
step_numbers End = record { found = 0; kind = 0; start = 0; size = 0 }
step_numbers (Record kind start size) = record { found = 1; kind = kind; start = start; size = size }
step_numbers Stump = record { found = 2; kind = 0; start = 0; size = 0 }
