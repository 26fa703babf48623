-- The files that a journal puts, in order: the master's image first, then each name in order of the
-- first entry that makes it, with what the last such entry gives it.

use Rattle.std.specs.Prelude.{ℕ, ◌-◌, ◌++◌, List, [], ◌∷◌, Option, Some, None, nat_eq, length, take, codes, map, unwrap_or, if◌then◌else◌}
use Rattle.std.specs.List.{list_any, filter_map, starts_with}
use Rattle.std.specs.Str.{bytes_eq}
use Rattle.job_calls.specs.declared.call.Call.{Call}
use Rattle.job_calls.specs.declared.call.Call.TheVariants as call
use Rattle.job_calls.specs.declared.reply.Reply.{Reply}
use Rattle.job_calls.specs.declared.reply.Reply.TheVariants.{Code, Unit as UnitReply}
use Rattle.job_calls.specs.declared.entry.Entry.{Entry}
use Rattle.job_calls.specs.declared.entry.Listed.{Listed}
use Rattle.job_calls.specs.Runs.{Opening, last_given}
use Rattle.bim_code.specs.Tables.{image_bytes}
use Rattle.bim_code.specs.declared.image.Image.{Image}
use Rattle.mosel_run.specs.declared.answer.Put.{Put}

-- the name of a source's image: `.bim` in place of `.mos`
abbrev pub image_name : List ℕ → List ℕ
image_name source = take (length source - 4) source ++ codes ".bim"

-- the bytes of an image; a file that has none gives none
abbrev pub bytes_of_image : Option Image → List ℕ
bytes_of_image (Some image) = image_bytes image
bytes_of_image None = []

-- the images by the names of their files
abbrev pub bytes_of_source : List Listed → List (Option Image) → List ℕ → List ℕ
bytes_of_source [] images name = []
bytes_of_source (file ∷ files) [] name = []
bytes_of_source (file ∷ files) (image ∷ images) name =
    if bytes_eq file.name name then bytes_of_image image else bytes_of_source files images name

-- a block of memory is no file
abbrev pub plain_write : List ℕ → List ℕ → Option Put
plain_write name bytes = if starts_with nat_eq name (codes "shmem:") then None else Some record { name = name; bytes = bytes }

-- what an entry puts
abbrev pub put_of : List Listed → List (Option Image) → Call → Reply → Option Put
put_of files images (call.Compile src dst) (Code code) =
    if nat_eq code 0 then Some record { name = dst; bytes = bytes_of_source files images src } else None
put_of files images (call.Write name bytes) UnitReply = plain_write name bytes
put_of files images (call.Open lanes budget params listed) reply = None
put_of files images call.Claim reply = None
put_of files images call.Quit reply = None
put_of files images (call.Finish end) reply = None
put_of files images (call.Compile src dst) reply = None
put_of files images (call.Load file) reply = None
put_of files images (call.Run model params) reply = None
put_of files images call.Wait reply = None
put_of files images call.Next reply = None
put_of files images call.Peek reply = None
put_of files images call.Drop reply = None
put_of files images call.IsEmpty reply = None
put_of files images (call.Send to class value) reply = None
put_of files images (call.Status model) reply = None
put_of files images (call.ExitCode model) reply = None
put_of files images (call.Stop model) reply = None
put_of files images (call.Unload model) reply = None
put_of files images (call.Read name) reply = None
put_of files images (call.Write name bytes) reply = None
put_of files images (call.PipeOpen name way) reply = None
put_of files images (call.PipePut name bytes) reply = None
put_of files images (call.PipeTake name) reply = None
put_of files images (call.PipeClose name) reply = None

-- the bytes of a put of this name
abbrev pub bytes_under : List ℕ → Put → Option (List ℕ)
bytes_under name put = if bytes_eq put.name name then Some put.bytes else None

-- the last bytes that a name is given
abbrev pub bytes_of : List Put → List ℕ → List ℕ
bytes_of puts name = unwrap_or (last_given (bytes_under name) puts) []

-- each name once, in order of its first put
abbrev pub with_put : List (List ℕ) → Put → List (List ℕ)
with_put names put = if list_any (bytes_eq put.name) names then names else names ++ put.name ∷ []

-- the names of these puts behind others
abbrev pub names_of : List (List ℕ) → List Put → List (List ℕ)
names_of names [] = names
names_of names (put ∷ puts) = names_of (with_put names put) puts

-- each name with its last bytes
abbrev pub last_puts : List Put → List Put
last_puts puts = map (λ name. record { name = name; bytes = bytes_of puts name }) (names_of [] puts)

-- the image of the first file, under its own name
abbrev pub master_put : List Listed → List (Option Image) → List Put
master_put (file ∷ files) (image ∷ images) = record { name = image_name file.name; bytes = bytes_of_image image } ∷ []
master_put _ _ = []  -- there is a file, and each has its place among the images

-- what a journal puts, where the listed files have these images
abbrev pub puts_of : Opening → List Entry → List (Option Image) → List Put
puts_of o journal images =
    master_put o.files images ++ last_puts (filter_map (λ e. put_of o.files images e.call e.reply) journal)
