-- What the functions and procedures of the library take and give.

use Rattle.std.specs.Prelude.{ℕ, Bool, true, false, not, ◌&&◌, ◌||◌, ◌==◌, List, [], ◌∷◌, ◌++◌, Option, Some, None, if◌then◌else◌, nat_lt, length, codes}
use Rattle.std.specs.List.{list_all, position_or_len, before_first}
use Rattle.std.specs.Str.{bytes_eq}
use Rattle.mos_text.specs.declared.kind.Kind.{Kind}
use Rattle.mos_text.specs.declared.kind.Kind.TheVariants.{Prefix, Args}
use Rattle.mos_sorts.specs.declared.sort.Sort.{Sort}
use Rattle.mos_sorts.specs.declared.sort.Sort.TheVariants as s
use Rattle.mos_sorts.specs.declared.typed.Typed.{Typed}
use Rattle.mos_sorts.specs.declared.typed.Typed.TheOpen as t
use Rattle.mos_sorts.specs.declared.typed.Typed.TheViews.{out-Typed}
use Rattle.mos_sorts.specs.declared.typed.Typed.TheOpen.{Typed-F}
use Rattle.mos_sorts.specs.declared.function.Callable.{Callable}
use Rattle.mos_sorts.specs.declared.function.Wanted.{Wanted}
use Rattle.mos_sorts.specs.declared.function.Wanted.TheVariants as w
use Rattle.mos_sorts.specs.declared.function.Takes.{Takes}
use Rattle.mos_sorts.specs.declared.function.Takes.TheVariants as take
use Rattle.mos_sorts.specs.declared.function.Gives.{Gives}
use Rattle.mos_sorts.specs.declared.function.Gives.TheVariants as give
use Rattle.mos_sorts.specs.Kinds.{breaks}
use Rattle.mos_sorts.specs.Sorts.{may_fit, sort_of_member, as_member, as_set}
use Rattle.mos_sorts.specs.Trees.{sort_of}

-- Arguments. One without a type is right everywhere.

-- the argument is of this type
abbrev pub is : Sort → Typed → Bool
is wanted a = may_fit wanted (sort_of a)

-- each is an integer
abbrev pub are_integers : List Typed → Bool
are_integers = list_all (is s.Integer)

-- a type has a size
abbrev pub has_size : Sort → Bool
has_size s.Text = true
has_size s.Range = true
has_size (s.Set a) = true
has_size (s.List a) = true
has_size s.EmptySet = true
has_size s.EmptyList = true
has_size (s.Array a) = true
has_size _ = false

-- a list
abbrev pub is_list : Sort → Bool
is_list (s.List a) = true
is_list s.EmptyList = true
is_list _ = false

-- a list or a range
abbrev pub is_sequence : Sort → Bool
is_sequence s.Range = true
is_sequence sort = is_list sort

-- a set or a range
abbrev pub is_set : Sort → Bool
is_set s.Range = true
is_set (s.Set a) = true
is_set s.EmptySet = true
is_set _ = false

-- the argument has no type, or one of which this holds
abbrev pub may_be : (Sort → Bool) → Option Sort → Bool
may_be p None = true
may_be p (Some sort) = p sort

-- a type that members can have
abbrev pub is_member : Sort → Bool
is_member s.Integer = true
is_member s.Boolean = true
is_member s.Text = true
is_member _ = false

-- the second can be looked for in a list of the first type
abbrev pub can_be_found : Option Sort → Option Sort → Bool
can_be_found None a = may_be is_member a
can_be_found (Some (s.List member)) a = may_fit (sort_of_member member) a
can_be_found (Some s.EmptyList) a = may_be is_member a
can_be_found (Some _) a = false

-- a variable, formal, cell or field, or `returned`
abbrev pub is_place : Typed-F Typed → Bool
is_place (t.Name sort place name) = true
is_place (t.Returned sort) = true
is_place (t.Cell sort dynamic place name indexes) = true
is_place (t.Field sort a field) = true
is_place t.Wrong = true
is_place _ = false

-- a cell of a dynamic array
abbrev pub is_dynamic_cell : Typed-F Typed → Bool
is_dynamic_cell (t.Cell sort dynamic place name indexes) = dynamic
is_dynamic_cell t.Wrong = true
is_dynamic_cell _ = false

-- the argument is what is wanted
abbrev pub is_wanted : Wanted → Typed → Bool
is_wanted w.Integer a = is s.Integer a
is_wanted w.Text a = is s.Text a
is_wanted w.Model a = is s.Model a
is_wanted w.Event a = is s.Event a
is_wanted w.Member a = may_be is_member (sort_of a)
is_wanted w.Sequence a = may_be is_sequence (sort_of a)
is_wanted w.List a = may_be is_list (sort_of a)
is_wanted w.Set a = may_be is_set (sort_of a)
is_wanted w.Collection a = may_be has_size (sort_of a)
is_wanted w.Value a = true
is_wanted w.Cell a = is_dynamic_cell (out-Typed a)
is_wanted w.ModelPlace a = is_place (out-Typed a) && is s.Model a

-- there is no argument
abbrev pub are_none : List Typed → Bool
are_none [] = true
are_none _ = false

-- there is one argument, which is this
abbrev pub are_one : Wanted → List Typed → Bool
are_one first (a ∷ []) = is_wanted first a
are_one first _ = false

-- there are two arguments, which are these
abbrev pub are_two : Wanted → Wanted → List Typed → Bool
are_two first second (a ∷ b ∷ []) = is_wanted first a && is_wanted second b
are_two first second _ = false

-- there are three arguments, which are these
abbrev pub are_three : Wanted → Wanted → Wanted → List Typed → Bool
are_three first second third (a ∷ b ∷ c ∷ []) = is_wanted first a && is_wanted second b && is_wanted third c
are_three first second third _ = false

-- there are a list and what can be looked for in it
abbrev pub are_list_and_member : List Typed → Bool
are_list_and_member (a ∷ b ∷ []) = can_be_found (sort_of a) (sort_of b)
are_list_and_member _ = false

-- one integer or more
abbrev pub some_integers : List Typed → Bool
some_integers [] = false
some_integers (a ∷ more) = are_integers (a ∷ more)

-- one, two or three texts
abbrev pub are_texts : List Typed → Bool
are_texts all = are_one w.Text all || are_two w.Text w.Text all || are_three w.Text w.Text w.Text all

-- these arguments are taken
abbrev pub are_taken : Takes → List Typed → Bool
are_taken take.Zero all = are_none all
are_taken (take.One first) all = are_one first all
are_taken (take.Two first second) all = are_two first second all
are_taken (take.Three first second third) all = are_three first second third all
are_taken take.ListAndMember all = are_list_and_member all
are_taken take.Integers all = some_integers all
are_taken take.Values all = true
are_taken take.SourceFile all = are_texts all
are_taken take.ModelAndImage all = are_two w.ModelPlace w.Text all
are_taken take.ModelToRun all = are_one w.Model all || are_two w.Model w.Text all
are_taken take.EventToSend all = are_two w.Integer w.Integer all || are_three w.Model w.Integer w.Integer all

-- the type of what stands first or last in a value of this type
abbrev pub of_sequence : Option Sort → Option Sort
of_sequence (Some s.Range) = Some s.Integer
of_sequence (Some (s.List member)) = Some (sort_of_member member)
of_sequence _ = None

-- the type, where it is that of a list
abbrev pub of_list : Option Sort → Option Sort
of_list (Some (s.List member)) = Some (s.List member)
of_list (Some s.EmptyList) = Some s.EmptyList
of_list _ = None

-- the type of the first argument
abbrev pub first_sort : List Typed → Option Sort
first_sort [] = None
first_sort (a ∷ more) = sort_of a

-- the type of a function's value, where it has one; a procedure has none
abbrev pub sort_given : Gives → List Typed → Option Sort
sort_given give.Nothing all = None
sort_given give.Integer all = Some s.Integer
sort_given give.Boolean all = Some s.Boolean
sort_given give.Text all = Some s.Text
sort_given give.Event all = Some s.Event
sort_given give.Item all = of_sequence (first_sort all)
sort_given give.List all = of_list (first_sort all)

-- what is called as a statement: it gives nothing
abbrev pub is_procedure : Gives → Bool
is_procedure give.Nothing = true
is_procedure _ = false

-- Names with a prefix.

-- a colon
abbrev pub is_colon : ℕ → Bool
is_colon b = b == 58

-- the text before the first colon, where there is one
abbrev pub prefix_of : List ℕ → Option (List ℕ)
prefix_of text = if nat_lt (position_or_len is_colon text) (length text) then Some (before_first is_colon text) else None

-- the name of a block of data may have this prefix
abbrev pub is_data_prefix : List ℕ → Bool
is_data_prefix word = bytes_eq word (codes "shmem") || bytes_eq word (codes "mempipe") || bytes_eq word (codes "bin")

-- a prefix that is not taken: the names of files have none
abbrev pub wrong_word : Bool → Option (List ℕ) → List Kind
wrong_word of_data None = []
wrong_word of_data (Some word) = breaks (not (of_data && is_data_prefix word)) (Prefix word)

-- a text literal with a prefix that is not taken; of other texts nothing is known before they are made
abbrev pub wrong_prefix : Bool → Typed-F Typed → List Kind
wrong_prefix of_data (t.Text text) = wrong_word of_data (prefix_of text)
wrong_prefix of_data _ = []

-- the names of two files
abbrev pub wrong_files_of : Typed-F Typed → Typed-F Typed → List Kind
wrong_files_of source image = wrong_prefix false source ++ wrong_prefix false image

-- a source and an image are names of files
abbrev pub wrong_files : List Typed → List Kind
wrong_files (source ∷ []) = wrong_prefix false (out-Typed source)
wrong_files (options ∷ source ∷ []) = wrong_prefix false (out-Typed source)
wrong_files (options ∷ source ∷ image ∷ []) = wrong_files_of (out-Typed source) (out-Typed image)
wrong_files _ = []

-- an image behind a model is the name of a file
abbrev pub wrong_image : List Typed → List Kind
wrong_image (model ∷ image ∷ []) = wrong_prefix false (out-Typed image)
wrong_image _ = []

-- the names of files among such arguments have no prefix
abbrev pub wrong_names : Takes → List Typed → List Kind
wrong_names take.SourceFile all = wrong_files all
wrong_names take.ModelAndImage all = wrong_image all
wrong_names _ all = []

-- what is wrong in a call of the library, beside its arguments themselves
abbrev pub wrong_call : Takes → List Typed → List Kind
wrong_call takes all = wrong_names takes all ++ breaks (not (are_taken takes all)) Args
