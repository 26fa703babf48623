-- Worked examples: what small models are compiled to, and what their machine does.

use Rattle.std.specs.Prelude.{◌≡◌, [], ◌∷◌, pos, codes}
use Rattle.bim_code.specs.declared.instruction.Comparison.TheVariants.{Greater, AtLeast}
use Rattle.bim_code.specs.declared.instruction.Instruction.TheVariants.{Tick, PushInt, PushBool, PushText, LoadGlobal, StoreGlobal, Swap, Add, Subtract, Compare, Jump, JumpIf, JumpNot, Show, Write, Line, End}
use Rattle.run_state.specs.Stops.{Exited, Spent}
use Rattle.bim_machine.specs.Courses.{course_of}
use Rattle.mos_meaning.specs.Examples.{hello, hello_image, down, endless, last_way, until_two, outcome}
use Rattle.bim_compile.specs.Compiled.{image_of}

-- the model that writes hello
abbrev pub HelloCompiled : Type 0
HelloCompiled = image_of hello ≡ hello_image

-- x:=3 and while(x>0) do x-=1 end-do: the test stands behind the body, and each pass begins with a tick
abbrev pub DownCode : Type 0
DownCode = (image_of down).code ≡
    Tick ∷ PushInt (pos 3) ∷ StoreGlobal 0
    ∷ Tick ∷ Jump 36
    ∷ Tick ∷ Tick ∷ PushInt (pos 1) ∷ LoadGlobal 0 ∷ Swap ∷ Subtract ∷ StoreGlobal 0
    ∷ LoadGlobal 0 ∷ PushInt (pos 0) ∷ Compare Greater ∷ JumpIf 17
    ∷ PushInt (pos 0) ∷ End ∷ []

-- if(1>2) then write("a") elif(false) then write("b") else write("c") end-if: each condition leads on to the next
-- one, and behind each block but the last a jump leads out
abbrev pub LastWayCode : Type 0
LastWayCode = (image_of last_way).code ≡
    Tick ∷ PushInt (pos 1) ∷ PushInt (pos 2) ∷ Compare Greater ∷ JumpNot 36
    ∷ Tick ∷ PushText 0 ∷ Show ∷ Write ∷ PushBool 0 ∷ Line ∷ Jump 79
    ∷ PushBool 0 ∷ JumpNot 65
    ∷ Tick ∷ PushText 1 ∷ Show ∷ Write ∷ PushBool 0 ∷ Line ∷ Jump 79
    ∷ Tick ∷ PushText 2 ∷ Show ∷ Write ∷ PushBool 0 ∷ Line
    ∷ PushInt (pos 0) ∷ End ∷ []

-- x:=0, while(true) do x+=1 if(x>=2) then break end-if end-do, writeln(x): the `break` leads behind the test
abbrev pub UntilTwoCode : Type 0
UntilTwoCode = (image_of until_two).code ≡
    Tick ∷ PushInt (pos 0) ∷ StoreGlobal 0
    ∷ Tick ∷ Jump 64
    ∷ Tick ∷ Tick ∷ PushInt (pos 1) ∷ LoadGlobal 0 ∷ Swap ∷ Add ∷ StoreGlobal 0
    ∷ Tick ∷ LoadGlobal 0 ∷ PushInt (pos 2) ∷ Compare AtLeast ∷ JumpNot 64
    ∷ Tick ∷ Jump 74 ∷ Jump 64
    ∷ PushBool 1 ∷ JumpIf 17
    ∷ Tick ∷ LoadGlobal 0 ∷ Show ∷ Write ∷ PushBool 1 ∷ Line
    ∷ PushInt (pos 0) ∷ End ∷ []

-- the image of an `if` does what the model means
abbrev pub LastWayCourse : Type 0
LastWayCourse = course_of (image_of last_way) [] [] 10000000 ≡ record { outcome = outcome (codes "c") 2 (Exited (pos 0)); steps = 15 }

-- so does that of a loop
abbrev pub DownCourse : Type 0
DownCourse = course_of (image_of down) [] [] 10000000 ≡ record { outcome = outcome [] 8 (Exited (pos 0)); steps = 44 }

-- with one tick less than it needs
abbrev pub DownSpent : Type 0
DownSpent = course_of (image_of down) [] [] 7 ≡ record { outcome = outcome [] 7 Spent; steps = 33 }

-- write("a") and while(true) next
abbrev pub EndlessSpent : Type 0
EndlessSpent = course_of (image_of endless) [] [] 10 ≡ record { outcome = outcome (codes "a") 10 Spent; steps = 31 }

-- so does that of a loop that is left by `break`
abbrev pub UntilTwoCourse : Type 0
UntilTwoCourse = course_of (image_of until_two) [] [] 10000000 ≡ record { outcome = outcome (codes "2\n") 10 (Exited (pos 0)); steps = 43 }
