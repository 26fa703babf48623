-- The listed files of a job: sources, data files, and an image.

use Rattle.std.specs.Prelude.{ℕ, Bool, ◌&&◌, not, List, [], Option, find, position, option_map, option_and_then, slice_get}
use Rattle.std.specs.Option.{option_map_or}
use Rattle.std.specs.Str.{bytes_eq}
use Rattle.mos_text.specs.FileName.{is_source_name, is_image_name}
use Rattle.job_calls.specs.declared.entry.Entry.{Entry}
use Rattle.job_calls.specs.declared.entry.Listed.{Listed}
use Rattle.job_calls.specs.Runs.{Opening, opening, source_of}

-- a file that is neither a source nor an image is a data file
abbrev pub is_data : List ℕ → Bool
is_data name = not (is_source_name name) && not (is_image_name name)

-- the files that the job was opened with
abbrev pub files_of : List Entry → List Listed
files_of journal = option_map_or (λ (o : Opening). o.files) (opening journal) []

-- and the number of lanes
abbrev pub lanes_of : List Entry → ℕ
lanes_of journal = option_map_or (λ (o : Opening). o.lanes) (opening journal) 0

-- the listed file that is the source of run k
abbrev pub file_of : ℕ → List Entry → Option Listed
file_of k journal = option_and_then (λ source. slice_get (files_of journal) source) (source_of k journal)

-- the code of the listed source of this name; 1 where there is none
abbrev pub code_of : List ℕ → List Entry → ℕ
code_of name journal =
    option_map_or (λ (file : Listed). file.code) (find (λ file. bytes_eq file.name name && is_source_name file.name) (files_of journal)) 1

-- the place of the listed file of this name
abbrev pub file_at : List ℕ → List Entry → Option ℕ
file_at name journal = position (λ file. bytes_eq file.name name) (files_of journal)

-- the bytes of the listed data file of this name
abbrev pub data_of : List ℕ → List Entry → Option (List ℕ)
data_of name journal =
    option_map (λ (file : Listed). file.bytes) (find (λ file. bytes_eq file.name name && is_data file.name) (files_of journal))
