-- The rules on types: as tests, and as facts.

use Rattle.std.proofs.Common.{◌≡◌, ◌<◌, ℕ, ◌+◌, zero, suc, true, List, [], ◌∷◌, ◌++◌, Option, Some, None, refl, length, take, slice_get, All, subst, arith}
use Rattle.std.specs.List.{list_all}
use Rattle.std.proofs.lemmas.List.Elements.{All-cons, All-nil, All-head}
use Rattle.bim_code.specs.declared.image.Image.{Image}
use Rattle.bim_code.specs.declared.image.ImageType.{ImageType}
use Rattle.bim_code.specs.declared.image.ImageType.TheVariants.{Integer, Boolean, Str, Model, Event, Range, Set, List as ListOf, Array, Record}
use Rattle.bim_code.specs.declared.image.Field.{Field}
use Rattle.bim_code.specs.Rules.{HasParts, IsMember, IsScalar, IsCell, IsFlat}
use Rattle.bim_rules.specs.declared.breach.Rule.TheVariants.{Numbers, Types}
use Rattle.bim_rules.specs.declared.breach.Table.TheVariants as table
use Rattle.bim_rules.specs.Breaches.{mark}
use Rattle.bim_rules.specs.Types.{is_type, is_constant, has_field, has_parts, is_member, is_scalar, is_cell, is_index, is_field, is_flat, type_breaches}
use Rattle.bim_verify.proofs.Tests.{first_half, second_half, both_halves, first_none, second_none, both_none, unmarked, no_mark, StandsFor, all_hold, all_told, below, is_below}

-- a number of a type
pub type_stands : (image : Image) → StandsFor (is_type image) (λ typ. typ < length image.types)
type_stands image = record { holds = λ typ e. below typ (length image.types) e; told = λ typ l. is_below typ (length image.types) l }

field_stands : (image : Image) → StandsFor (has_field image) (λ (field : Field). (field.name < length image.constants) × (field.typ < length image.types))
field_stands image = record {
  holds = λ field e. (
    below field.name (length image.constants) (first_half (is_constant image field.name) (is_type image field.typ) e),
    below field.typ (length image.types) (second_half (is_constant image field.name) (is_type image field.typ) e),
  );
  told = λ field h. both_halves (is_constant image field.name) (is_type image field.typ) (is_below field.name (length image.constants) h.0) (is_below field.typ (length image.types) h.1);
}

parts_hold : (image : Image) (typ : ImageType) → has_parts image typ ≡ true → HasParts image typ
parts_hold image (Set member) e = below member (length image.types) e
parts_hold image (ListOf member) e = below member (length image.types) e
parts_hold image (Array dynamic indexes cell) e =
    let s = list_all (is_type image) indexes in (
      all_hold (is_type image) (λ typ. typ < length image.types) (type_stands image) indexes (first_half s (is_type image cell) e),
      below cell (length image.types) (second_half s (is_type image cell) e),
    )
parts_hold image (Record fields) e =
    all_hold (has_field image) (λ (field : Field). (field.name < length image.constants) × (field.typ < length image.types)) (field_stands image) fields e
parts_hold image Integer e = tt
parts_hold image Boolean e = tt
parts_hold image Str e = tt
parts_hold image Model e = tt
parts_hold image Event e = tt
parts_hold image Range e = tt

parts_told : (image : Image) (typ : ImageType) → HasParts image typ → has_parts image typ ≡ true
parts_told image (Set member) h = is_below member (length image.types) h
parts_told image (ListOf member) h = is_below member (length image.types) h
parts_told image (Array dynamic indexes cell) h =
    both_halves (list_all (is_type image) indexes) (is_type image cell)
    (all_told (is_type image) (λ typ. typ < length image.types) (type_stands image) indexes h.0) (is_below cell (length image.types) h.1)
parts_told image (Record fields) h =
    all_told (has_field image) (λ (field : Field). (field.name < length image.constants) × (field.typ < length image.types)) (field_stands image) fields h
parts_told image Integer h = refl
parts_told image Boolean h = refl
parts_told image Str h = refl
parts_told image Model h = refl
parts_told image Event h = refl
parts_told image Range h = refl

pub parts_stand : (image : Image) → StandsFor (has_parts image) (HasParts image)
parts_stand image = record { holds = parts_hold image; told = parts_told image }

-- types that are flat

member_holds : (typ : Option ImageType) → is_member typ ≡ true → IsMember typ
member_holds (Some Integer) e = tt
member_holds (Some Boolean) e = tt
member_holds (Some Str) e = tt
member_holds (Some Model) e = cc
member_holds (Some Event) e = cc
member_holds (Some Range) e = cc
member_holds (Some (Set member)) e = cc
member_holds (Some (ListOf member)) e = cc
member_holds (Some (Array dynamic indexes cell)) e = cc
member_holds (Some (Record fields)) e = cc
member_holds None e = cc

member_told : (typ : Option ImageType) → IsMember typ → is_member typ ≡ true
member_told (Some Integer) h = refl
member_told (Some Boolean) h = refl
member_told (Some Str) h = refl
member_told (Some Model) h = absurd h
member_told (Some Event) h = absurd h
member_told (Some Range) h = absurd h
member_told (Some (Set member)) h = absurd h
member_told (Some (ListOf member)) h = absurd h
member_told (Some (Array dynamic indexes cell)) h = absurd h
member_told (Some (Record fields)) h = absurd h
member_told None h = absurd h

scalar_holds : (typ : Option ImageType) → is_scalar typ ≡ true → IsScalar typ
scalar_holds (Some Model) e = tt
scalar_holds (Some Event) e = tt
scalar_holds (Some Integer) e = tt
scalar_holds (Some Boolean) e = tt
scalar_holds (Some Str) e = tt
scalar_holds (Some Range) e = cc
scalar_holds (Some (Set member)) e = cc
scalar_holds (Some (ListOf member)) e = cc
scalar_holds (Some (Array dynamic indexes cell)) e = cc
scalar_holds (Some (Record fields)) e = cc
scalar_holds None e = cc

scalar_told : (typ : Option ImageType) → IsScalar typ → is_scalar typ ≡ true
scalar_told (Some Model) h = refl
scalar_told (Some Event) h = refl
scalar_told (Some Integer) h = refl
scalar_told (Some Boolean) h = refl
scalar_told (Some Str) h = refl
scalar_told (Some Range) h = absurd h
scalar_told (Some (Set member)) h = absurd h
scalar_told (Some (ListOf member)) h = absurd h
scalar_told (Some (Array dynamic indexes cell)) h = absurd h
scalar_told (Some (Record fields)) h = absurd h
scalar_told None h = absurd h

cell_holds : (typ : Option ImageType) → is_cell typ ≡ true → IsCell typ
cell_holds (Some (Record fields)) e = tt
cell_holds (Some Model) e = tt
cell_holds (Some Event) e = tt
cell_holds (Some Integer) e = tt
cell_holds (Some Boolean) e = tt
cell_holds (Some Str) e = tt
cell_holds (Some Range) e = cc
cell_holds (Some (Set member)) e = cc
cell_holds (Some (ListOf member)) e = cc
cell_holds (Some (Array dynamic indexes cell)) e = cc
cell_holds None e = cc

cell_told : (typ : Option ImageType) → IsCell typ → is_cell typ ≡ true
cell_told (Some (Record fields)) h = refl
cell_told (Some Model) h = refl
cell_told (Some Event) h = refl
cell_told (Some Integer) h = refl
cell_told (Some Boolean) h = refl
cell_told (Some Str) h = refl
cell_told (Some Range) h = absurd h
cell_told (Some (Set member)) h = absurd h
cell_told (Some (ListOf member)) h = absurd h
cell_told (Some (Array dynamic indexes cell)) h = absurd h
cell_told None h = absurd h

index_stands : (before : List ImageType) → StandsFor (is_index before) (λ typ. IsMember (slice_get before typ))
index_stands before = record { holds = λ typ e. member_holds (slice_get before typ) e; told = λ typ h. member_told (slice_get before typ) h }

-- a type is flat, where the names of its fields are constants
pub flat_holds : (image : Image) (before : List ImageType) (typ : ImageType) → HasParts image typ → is_flat before typ ≡ true → IsFlat image.constants before typ
flat_holds image before (Set member) p e = member_holds (slice_get before member) e
flat_holds image before (ListOf member) p e = member_holds (slice_get before member) e
flat_holds image before (Array dynamic indexes cell) p e =
    let s = list_all (is_index before) indexes in
    let t = is_cell (slice_get before cell) in (
      all_hold (is_index before) (λ typ. IsMember (slice_get before typ)) (index_stands before) indexes (first_half s t e),
      cell_holds (slice_get before cell) (second_half s t e),
    )
flat_holds image before (Record fields) p e = λ k d within.
    let scalar = all_hold (is_field before) (λ (field : Field). IsScalar (slice_get before field.typ)) (record { holds = λ field h. scalar_holds (slice_get before field.typ) h; told = λ field h. scalar_told (slice_get before field.typ) h }) fields e in
    let one = p k d within in (one.0, scalar k d within)
flat_holds image before Integer p e = tt
flat_holds image before Boolean p e = tt
flat_holds image before Str p e = tt
flat_holds image before Model p e = tt
flat_holds image before Event p e = tt
flat_holds image before Range p e = tt

pub flat_told : (image : Image) (before : List ImageType) (typ : ImageType) → IsFlat image.constants before typ → is_flat before typ ≡ true
flat_told image before (Set member) h = member_told (slice_get before member) h
flat_told image before (ListOf member) h = member_told (slice_get before member) h
flat_told image before (Array dynamic indexes cell) h =
    both_halves (list_all (is_index before) indexes) (is_cell (slice_get before cell))
    (all_told (is_index before) (λ typ. IsMember (slice_get before typ)) (index_stands before) indexes h.0)
    (cell_told (slice_get before cell) h.1)
flat_told image before (Record fields) h =
    all_told (is_field before) (λ (field : Field). IsScalar (slice_get before field.typ)) (record { holds = λ field e. scalar_holds (slice_get before field.typ) e; told = λ field e. scalar_told (slice_get before field.typ) e }) fields (λ k d within. let one = h k d within in one.1)
flat_told image before Integer h = refl
flat_told image before Boolean h = refl
flat_told image before Str h = refl
flat_told image before Model h = refl
flat_told image before Event h = refl
flat_told image before Range h = refl

-- the table

flats : (image : Image) (k : ℕ) (typ : ImageType) (types : List ImageType) → is_flat (take k image.types) typ ≡ true
    → ((j : ℕ) (other : ImageType) → slice_get types j ≡ Some other → is_flat (take ((k + 1) + j) image.types) other ≡ true)
    → (j : ℕ) (other : ImageType) → slice_get (typ ∷ types) j ≡ Some other → is_flat (take (k + j) image.types) other ≡ true
flats image k typ types here rest zero other e =
    let same : typ ≡ other = cc in
    let at : k + 0 ≡ k = omega arith in rw at (subst (λ t. is_flat (take k image.types) t ≡ true) same here)
flats image k typ types here rest (suc j) other e =
    let at : k + suc j ≡ (k + 1) + j = omega arith in rw at (rest j other e)

pub types_unbroken : (image : Image) (k : ℕ) (types : List ImageType) → type_breaches image k types ≡ []
    → All (HasParts image) types × ((j : ℕ) (typ : ImageType) → slice_get types j ≡ Some typ → is_flat (take (k + j) image.types) typ ≡ true)
types_unbroken image k [] e = (All-nil (HasParts image), λ j typ h. cc)
types_unbroken image k (typ ∷ types) e =
    let one = mark Numbers table.Types k (has_parts image typ) in
    let two = mark Types table.Types k (is_flat (take k image.types) typ) in
    let behind = second_none one (two ++ type_breaches image (k + 1) types) e in
    let rest = types_unbroken image (k + 1) types (second_none two (type_breaches image (k + 1) types) behind) in (
      All-cons (HasParts image) typ types (parts_hold image typ (unmarked Numbers table.Types k (has_parts image typ) (first_none one (two ++ type_breaches image (k + 1) types) e))) rest.0,
      flats image k typ types (unmarked Types table.Types k (is_flat (take k image.types) typ) (first_none two (type_breaches image (k + 1) types) behind)) rest.1,
    )

pub types_kept : (image : Image) (k : ℕ) (types : List ImageType) → All (HasParts image) types
    → ((j : ℕ) (typ : ImageType) → slice_get types j ≡ Some typ → IsFlat image.constants (take (k + j) image.types) typ) → type_breaches image k types ≡ []
types_kept image k [] parts flat = refl
types_kept image k (typ ∷ types) parts flat =
    let at : k + 0 ≡ k = omega arith in
    let here : is_flat (take k image.types) typ ≡ true = flat_told image (take k image.types) typ (subst (λ n. IsFlat image.constants (take n image.types) typ) at (flat 0 typ refl)) in
    both_none (mark Numbers table.Types k (has_parts image typ)) _ (no_mark Numbers table.Types k (has_parts image typ) (parts_told image typ (All-head (HasParts image) typ types parts)))
    (both_none (mark Types table.Types k (is_flat (take k image.types) typ)) _ (no_mark Types table.Types k (is_flat (take k image.types) typ) here)
    (types_kept image (k + 1) types (λ j d within. parts (suc j) d (omega (arith, within))) (λ j other e.
    let step : k + suc j ≡ (k + 1) + j = omega arith in
    subst (λ n. IsFlat image.constants (take n image.types) other) step (flat (suc j) other e))))
