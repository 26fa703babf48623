-- What a contract sees of the devices in memory that fail by list.

use Rattle.std.specs.Prelude.{ℕ, List, refl}
use Rattle.std.specs.FinMap as map
use Rattle.std.specs.Coded.{Coded, code_by, coded×, coded_ℕ, coded_list, coded_option}
use Rattle.mos_text.specs.Content.{Files}
use Rattle.mos_text.specs.Calls.{Calls, calls_code}

-- a folder in memory: its files, the calls that read and that write, and how many of them failed
pub record MemoryFiles : Type 0 where
  -- the content
  pub files : Files
  pub gets : Calls
  pub puts : Calls
  pub faults : ℕ

-- such a folder is stored as the tuple of its fields
abbrev pub memory_files_code : Coded MemoryFiles
memory_files_code =
    code_by (Files × (Calls × (Calls × ℕ))) (coded× (map.code (coded_list coded_ℕ) (coded_option (coded_list coded_ℕ))) (coded× calls_code (coded× calls_code coded_ℕ)))
    (λ m. (m.files, (m.gets, (m.puts, m.faults)))) (λ p. record { files = p.0; gets = p.1.0; puts = p.1.1.0; faults = p.1.1.1 }) (λ _. refl)

-- a sink in memory: what it holds, the calls that write, and how many of them failed
pub record MemoryBytes : Type 0 where
  -- what was written so far
  pub bytes : List ℕ
  -- how many bytes one write takes at most
  pub piece : ℕ
  pub writes : Calls
  pub faults : ℕ

-- such a sink is stored as the tuple of its fields
abbrev pub memory_bytes_code : Coded MemoryBytes
memory_bytes_code =
    code_by (List ℕ × (ℕ × (Calls × ℕ))) (coded× (coded_list coded_ℕ) (coded× coded_ℕ (coded× calls_code coded_ℕ)))
    (λ m. (m.bytes, (m.piece, (m.writes, m.faults)))) (λ p. record { bytes = p.0; piece = p.1.0; writes = p.1.1.0; faults = p.1.1.1 }) (λ _. refl)
