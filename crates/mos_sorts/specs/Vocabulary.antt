-- The names of the library and of the module of jobs, and those of the full language that are left out: what each
-- stands for where it is not declared.

use Rattle.std.specs.Prelude.{ℕ, Bool, true, false, List, [], ◌∷◌, Option, Some, None, if◌then◌else◌, map, codes}
use Rattle.std.specs.List.{list_any}
use Rattle.std.specs.Str.{bytes_eq}
use Rattle.mos_names.specs.NameLists.{Name}
use Rattle.mos_tree.specs.declared.expr.Conversion.{Conversion}
use Rattle.mos_tree.specs.declared.expr.Conversion.TheVariants as convert
use Rattle.mos_sorts.specs.declared.function.Function.{Function}
use Rattle.mos_sorts.specs.declared.function.Function.TheVariants as f
use Rattle.mos_sorts.specs.declared.function.Takes.{Takes}
use Rattle.mos_sorts.specs.declared.function.Takes.TheVariants.{One}
use Rattle.mos_sorts.specs.declared.function.Gives.{Gives}
use Rattle.mos_sorts.specs.declared.function.Wanted.TheVariants as wanted
use Rattle.mos_sorts.specs.declared.function.Gives.TheVariants as give
use Rattle.mos_sorts.specs.declared.function.Callable.{Callable}
use Rattle.mos_sorts.specs.declared.function.Undeclared.{Undeclared}
use Rattle.mos_sorts.specs.declared.function.Undeclared.TheVariants as u
use Rattle.mos_sorts.specs.declared.vocabulary.TheConstants.{FUNCTIONS, JOB_FUNCTIONS, LEFT_OUT}

-- the functions and procedures that need no module, with what they take and give
abbrev pub functions : List (Name × Function × Takes × Gives)
functions = map (λ k. (k.0.now, k.1, k.2, k.3)) FUNCTIONS

-- those of the module of jobs
abbrev pub job_functions : List (Name × Function × Takes × Gives)
job_functions = map (λ k. (k.0.now, k.1, k.2, k.3)) JOB_FUNCTIONS

-- a routine of another module that is left out
abbrev pub is_left_out : Name → Bool
is_left_out n = list_any (λ k. bytes_eq n k.now) LEFT_OUT

-- the function of this name in a table
abbrev pub look_up : Name → List (Name × Function × Takes × Gives) → Option Callable
look_up n [] = None
look_up n ((m, function, takes, gives) ∷ more) =
    if bytes_eq n m then Some (record { function = function; takes = takes; gives = gives }) else look_up n more

-- a name of the module of jobs, where that is used
abbrev pub of_jobs : Bool → Undeclared → Undeclared
of_jobs true found = found
of_jobs false found = u.Jobs

-- what a name that is no function stands for where it is not declared
abbrev pub no_function : Bool → Name → Undeclared
no_function jobs n =
    if is_left_out n then u.LeftOut
    else if bytes_eq n (codes "Model") then of_jobs jobs u.Model
    else if bytes_eq n (codes "Event") then of_jobs jobs u.Event
    else u.Nothing

-- what a name stands for that is this function of the module of jobs, if it is one
abbrev pub job_function : Bool → Name → Option Callable → Undeclared
job_function jobs n None = no_function jobs n
job_function jobs n (Some callable) = of_jobs jobs (u.Function callable)

-- what a name stands for that is this function of those that need no module, if it is one
abbrev pub function_or : Bool → Name → Option Callable → Undeclared
function_or jobs n None = job_function jobs n (look_up n job_functions)
function_or jobs n (Some callable) = u.Function callable

-- what a name stands for where it is not declared, by whether the module of jobs is used
abbrev pub undeclared_meaning : Bool → Name → Undeclared
undeclared_meaning jobs n = function_or jobs n (look_up n functions)

-- `integer(a)` and `string(a)` as functions of the library
abbrev pub conversion : Conversion → Callable
conversion convert.Integer = record { function = f.IntegerOf; takes = One wanted.Member; gives = give.Integer }
conversion convert.Text = record { function = f.TextOf; takes = One wanted.Value; gives = give.Text }
