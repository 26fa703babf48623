-- Limits that a piece alone may break.

use Rattle.std.specs.Prelude.{ℕ, Bool, if◌then◌else◌, List, [], ◌∷◌, Option, Some, None, unwrap_or}
use Rattle.std.specs.Str.{bytes_eq}
use Rattle.mos_text.specs.declared.kind.Kind.{Kind}
use Rattle.mos_text.specs.declared.kind.Kind.TheVariants as error_kind
use Rattle.mos_tree.specs.declared.form.Form.{Form}
use Rattle.mos_tree.specs.declared.form.Form.TheVariants as form_kind
use Rattle.mos_source.specs.Sources.{no_implicit, jobs_module}

-- the name is that of the one module
abbrev pub is_jobs : List ℕ → Bool
is_jobs name = bytes_eq name jobs_module

-- the name is that of the one option
abbrev pub is_no_implicit : List ℕ → Bool
is_no_implicit name = bytes_eq name no_implicit

-- the first module that is another than the one there is
abbrev pub module_limit : List (List ℕ) → Option Kind
module_limit [] = None
module_limit (x ∷ xs) = if is_jobs x then module_limit xs else Some (error_kind.Module x)

-- an option that is another than the one there is
abbrev pub option_limit : List ℕ → Option Kind
option_limit name = if is_no_implicit name then None else Some (error_kind.Out name)

-- the limit that a piece breaks wherever it stands: another module, another option, a tree that is too high
abbrev pub own_limit : Form → Option Kind
own_limit (form_kind.TooHigh piece_kind) = Some error_kind.Deep
own_limit (form_kind.Uses modules) = module_limit modules
own_limit (form_kind.Options name) = option_limit name
own_limit _ = None

-- the limit that a piece breaks which could stand at its place: its own, or that of blocks
abbrev pub broken_kind : Form → Kind
broken_kind form = unwrap_or (own_limit form) error_kind.Deep
