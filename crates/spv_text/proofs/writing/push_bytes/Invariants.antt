use Rattle.std.proofs.Common.{◌≡◌, ◌++◌, drop}
use Rattle.std.specs.List.{flat_map}
use Rattle.spv_text.specs.Spelling.{byte_text}
use Rattle.spv_text.proofs.writing.push_bytes.Given as goal

abbrev pub invariant-loop-byte : goal.invariant-loop-byte
invariant-loop-byte l = l.text.items ++ flat_map byte_text (drop l.byte-index l.bytes) ≡ l.fn.text.items ++ flat_map byte_text (l.bytes)
