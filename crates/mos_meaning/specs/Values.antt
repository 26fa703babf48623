-- The value of an expression, by the tree. Operands are evaluated from left to right.

use Rattle.std.specs.Prelude.{ℕ, pos, true, false, List, [], ◌∷◌, Option, Some, None, slice_get, if◌then◌else◌, reverse}
use Rattle.std.specs.Str.{bytes_eq}
use Rattle.mos_text.specs.declared.scalar.Scalar.{Scalar}
use Rattle.mos_text.specs.declared.scalar.Scalar.TheVariants.{Int, Bool as Truth}
use Rattle.mos_names.specs.NameLists.{Name, place_of}
use Rattle.mos_value.specs.Values.{Value, One, Place, members_of}
use Rattle.mos_value.specs.Answers.{between, sum, range, answer}
use Rattle.mos_value.specs.Answers as how
use Rattle.run_state.specs.Stops.{Failed, Stuck, Lost}
use Rattle.run_state.specs.State.{World, State, with_store, Evaluation, Yields, StopsWith, bind, or_stop, evaluation_of, on_drawn, tick}
use Rattle.run_state.specs.Calls.{ask}
use Rattle.run_state.specs.HubFunctions.{HubFunction, Calling, Makes, Refuses, Unfit, call_of, HubResult, HasValue, NoValue, NoReply, result_of_reply}
use Rattle.run_state.specs.Places.{load, put, Argument, ByValue, ByPlace}
use Rattle.mos_meaning.specs.Syntax.{Scope, Own, Model, Expression, number, text, truth, variable, index, apply, range_of, sum_over, invoke, ask_hub, unbuilt, Arguments, no_argument, by_value, by_place, by_fresh}

-- the names of the variables, the routine's that runs and the model's; the place of each is by its place
-- among them
pub record Names : Type 0 where
  pub own : List Name
  pub model : List Name

-- what the names of the routine that runs stand for: index names for constants, the newest first, and
-- its variables for places
pub record Env : Type 0 where
  pub bound : List (Name × Scalar)
  pub places : List Place

-- what a call of a routine does, by its number, with its arguments: a function gives a value
abbrev pub Routine : Type 0
Routine = ℕ → List Argument → State → Evaluation (Option Value)

-- Names.

-- the place of a variable, where it has one
abbrev pub place_in : Names → Env → Scope → Name → Option Place
place_in names env Own n = slice_get env.places (place_of n names.own)
place_in names env Model n = Some (record { frame = 0; slot = place_of n names.model })

-- its value
abbrev pub load_result : Option Place → State → Evaluation Value
load_result None s = StopsWith Lost None s
load_result (Some place) s = or_stop Lost (load place s.memory.store) s

-- it with a fresh value, which is then shared
abbrev pub with_fresh : Option Place → Value → State → Evaluation Place
with_fresh None value s = StopsWith Lost None s
with_fresh (Some place) value s = bind (or_stop Lost (put place value s.memory.store) s) (λ store s1. Yields place (with_store store s1))

-- the constant that an index name is
abbrev pub bound_in : List (Name × Scalar) → Name → Option Value
bound_in [] n = None
bound_in (one ∷ more) n = if bytes_eq n one.0 then Some (One one.1) else bound_in more n

-- one more index name
abbrev pub with_index : Name → Scalar → Env → Env
with_index n x env = record env { bound = (n, x) ∷ env.bound }

-- Steps of evaluation.

-- one way or the other, by a condition
abbrev pub on_truth : {A : Type 0} → Value → State → Evaluation A → Evaluation A → Evaluation A
on_truth (One (Truth true)) s when_true when_false = when_true
on_truth (One (Truth false)) s when_true when_false = when_false
on_truth _ s when_true when_false = StopsWith Stuck None s

-- a tick first
abbrev pub ticking : {A : Type 0} → World → State → (State → Evaluation A) → Evaluation A
ticking w s go = bind (on_drawn (tick w s.counts) s) (λ done s1. go s1)

-- a call of a routine takes a tick
abbrev pub calling : World → Routine → ℕ → List Argument → State → Evaluation (Option Value)
calling w call routine all s = ticking w s (λ s1. call routine all s1)

-- one more value
abbrev pub with_first : Value → Option (List Value) → Option (List Value)
with_first value None = None
with_first value (Some values) = Some (value ∷ values)

-- the values of arguments, none of which is shared
abbrev pub values_in : List Argument → Option (List Value)
values_in [] = Some []
values_in (ByValue value ∷ rest) = with_first value (values_in rest)
values_in (ByPlace place ∷ rest) = None

-- what a reply gives goes on
abbrev pub on_reply : HubResult → State → Evaluation (Option Value)
on_reply (HasValue value) s = Yields (Some value) s
on_reply NoValue s = Yields None s
on_reply NoReply s = StopsWith Stuck None s

-- the call that a function or procedure of the hub makes, and what the reply gives
abbrev pub call_result : World → HubFunction → Calling → State → Evaluation (Option Value)
call_result w function (Makes call) s = bind (on_drawn (ask w call s.counts) s) (λ r s1. on_reply (result_of_reply function call r) s1)
call_result w function (Refuses kind) s = StopsWith (Failed kind) None s
call_result w function Unfit s = StopsWith Stuck None s

-- with the arguments that it is given
abbrev pub asking : World → HubFunction → List Argument → State → Evaluation (Option Value)
asking w function all s = bind (or_stop Stuck (values_in all) s) (λ values s1. call_result w function (call_of function values) s1)

-- the sum over members, each of which takes a tick, on top of the sum so far
abbrev pub sums : World → (Scalar → State → Evaluation Value) → (Scalar → State → Evaluation Value) → List Scalar → Value → State → Evaluation Value
sums w condition body [] sofar s = Yields sofar s
sums w condition body (x ∷ xs) sofar s =
    ticking w s (λ s1. bind (condition x s1) (λ c s2. on_truth c s2
    (bind (body x s2) (λ v s3. bind (evaluation_of (answer (between sum) (sofar ∷ v ∷ [])) s3) (λ total s4. sums w condition body xs total s4)))
    (sums w condition body xs sofar s2)))

abbrev mutual
  -- the value of an expression; where a procedure stands in the place of a function, it is lost
  pub value_of : World → Routine → Names → Expression → Env → State → Evaluation Value
  value_of w call names (number n) env s = Yields (One (Int n)) s
  value_of w call names (text t) env s = evaluation_of (how.text t) s
  value_of w call names (truth b) env s = Yields (One (Truth b)) s
  value_of w call names (variable scope n) env s = load_result (place_in names env scope n) s
  value_of w call names (index n) env s = or_stop Lost (bound_in env.bound n) s
  value_of w call names (apply operator a b) env s =
      bind (value_of w call names a env s) (λ x s1. bind (value_of w call names b env s1) (λ y s2. evaluation_of (answer (between operator) (x ∷ y ∷ [])) s2))
  value_of w call names (range_of a b) env s =
      bind (value_of w call names a env s) (λ x s1. bind (value_of w call names b env s1) (λ y s2. evaluation_of (answer range (x ∷ y ∷ [])) s2))
  value_of w call names (sum_over i set condition body) env s =
      bind (value_of w call names set env s) (λ v s1. bind (or_stop Stuck (members_of v) s1) (λ xs s2.
      sums w (λ x. value_of w call names condition (with_index i x env)) (λ x. value_of w call names body (with_index i x env)) xs (One (Int (pos 0))) s2))
  value_of w call names (invoke routine all) env s =
      bind (arguments_of w call names all env [] s) (λ given s1. bind (calling w call routine (reverse given) s1) (λ v s2. or_stop Lost v s2))
  value_of w call names (ask_hub function all) env s =
      bind (arguments_of w call names all env [] s) (λ given s1. bind (asking w function (reverse given) s1) (λ v s2. or_stop Lost v s2))
  value_of w call names unbuilt env s = StopsWith Lost None s

  -- arguments in their order, on top of those so far, the last first
  pub arguments_of : World → Routine → Names → Arguments → Env → List Argument → State → Evaluation (List Argument)
  arguments_of w call names no_argument env sofar s = Yields sofar s
  arguments_of w call names (by_value e rest) env sofar s =
      bind (value_of w call names e env s) (λ v s1. arguments_of w call names rest env (ByValue v ∷ sofar) s1)
  arguments_of w call names (by_place scope n rest) env sofar s =
      bind (or_stop Lost (place_in names env scope n) s) (λ place s1. arguments_of w call names rest env (ByPlace place ∷ sofar) s1)
  arguments_of w call names (by_fresh scope n e rest) env sofar s =
      bind (value_of w call names e env s) (λ v s1. bind (with_fresh (place_in names env scope n) v s1) (λ place s2.
      arguments_of w call names rest env (ByPlace place ∷ sofar) s2))
