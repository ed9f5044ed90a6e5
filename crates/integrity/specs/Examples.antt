-- Demand 3 says something: two accepted programs, one for each technique, and lists of calls over them whose steps and bus writes are
-- made, from any registers; stop 4, where a branch may not meet it and where a jmp does; a routine that is called from two places; and
-- stops 5 and 6.
use Rattle.std.specs.Prelude.{ℕ, zero, suc, ◌≡◌, List, [], ◌∷◌, ◌++◌, map, set, Ok, Err}
use Rattle.answers.specs.declared.Refusal.{Refusal}
use Rattle.answers.specs.declared.Place.{Place}
use Rattle.answers.specs.Faults.{fault}
use Rattle.isa.specs.declared.Instr.{Instr}
use Rattle.isa.specs.declared.Technique.{Technique}
use Rattle.isa.specs.Words.{encode_of}
use Rattle.isa.specs.PostProgram.{post_code, post_edges}
use Rattle.machine.specs.declared.Stop.{Stop}
use Rattle.machine.specs.declared.Halt.{Halt}
use Rattle.checker.specs.Verdicts.{verdict_of}
use Rattle.integrity.specs.Calls.{Call, trace, steps_made, ending_by, after_all}
use Rattle.integrity.specs.Demand.{fresh}
use Rattle.integrity.specs.Home.{pending_from}

-- a program with both memory guards, for one data word, at address 18: its st, at 5, stores r6 where r5 says; its jmp, at 15, goes
-- to the label at 16, if r5 says so
abbrev pub guarded : List ℕ
guarded =
    map encode_of
    (Instr.Addi 0 5 0 ∷ Instr.Movi 1 18 ∷ Instr.Movi 2 18 ∷ Instr.Bgt 0 1 17 ∷ Instr.Bgt 2 0 17 ∷ Instr.St 0 6 0
    ∷ Instr.Addi 0 5 0 ∷ Instr.Movi 1 17 ∷ Instr.Movi 2 0 ∷ Instr.Bgt 0 1 17 ∷ Instr.Bgt 2 0 17
    ∷ Instr.Ld 1 0 0 ∷ Instr.Movi 2 16 ∷ Instr.Bgt 1 2 17 ∷ Instr.Bgt 2 1 17 ∷ Instr.Jmp 0
    ∷ Instr.Label 16 ∷ Instr.Illegal ∷ [])

abbrev pub guarded_edges : List ℕ
guarded_edges = 15 ∷ 16 ∷ []

-- registers i, i + 1 and so on, k of them, as the caller gives them
abbrev pub registers_from : (ℕ → ℕ) → ℕ → ℕ → List ℕ
registers_from r i zero = []
registers_from r i (suc k) = r i ∷ registers_from r (suc i) k

-- a step; a bus write of what the program itself put there; a bus write that is refused; a run to the end
abbrev pub post_calls : List Call
post_calls = Call.Step ∷ Call.WriteRegister 5 7 ∷ Call.WriteRegister 2 0 ∷ Call.Run 100 ∷ []

-- the data word set; r5 aimed at it and r6 set; the store made by a run; r5 aimed at the label; a run to the end; one step more
abbrev pub guarded_calls : List Call
guarded_calls =
    Call.WriteData 18 7 ∷ Call.WriteRegister 5 18 ∷ Call.WriteRegister 6 99 ∷ Call.Run 6
    ∷ Call.WriteRegister 5 16 ∷ Call.Run 100 ∷ Call.Step ∷ []

pub record ProgramsAccepted : Type 0 where
  pub post : verdict_of Technique.Plain post_code 9 post_edges ≡ Ok tt
  pub guards : (d : ℕ) → verdict_of Technique.MemoryGuards (guarded ++ d ∷ []) 18 guarded_edges ≡ Ok tt

-- from registers r 0 to r 31, and a data word d
pub record CallsMade (r : ℕ → ℕ) (d : ℕ) : Type 0 where
  pub post_steps : steps_made (trace Technique.Plain 9 post_calls (fresh (registers_from r 0 32) post_code [])) ≡ 8
  pub post_ends : (after_all Technique.Plain 9 post_calls (fresh (registers_from r 0 32) post_code [])).state.pc ≡ 8
  pub guarded_steps :
      steps_made (trace Technique.MemoryGuards 18 guarded_calls (fresh (registers_from r 0 32) guarded (d ∷ []))) ≡ 17
  pub guarded_stores :
      (after_all Technique.MemoryGuards 18 guarded_calls (fresh (registers_from r 0 32) guarded (d ∷ []))).memory ≡ guarded ++ 99 ∷ []

-- the post program with its first word made a branch to w: its last code word is at 8
abbrev pub branch_to : ℕ → List ℕ
branch_to w = set post_code 0 (encode_of (Instr.Jd w))

-- a step; r5 aimed at a data word, at 9, that is the word of the label; a run to the stop
abbrev pub outward_calls : List Call
outward_calls = Call.Step ∷ Call.WriteRegister 5 9 ∷ Call.Run 100 ∷ []

-- What K2 is about, from registers r 0 to r 31: a branch to the last code word is accepted, and one past it is not, since its step
-- would give stop 4; an accepted program meets that stop at its jmp, at 6.
pub record StopFourShown (r : ℕ → ℕ) : Type 0 where
  pub branch_to_last : verdict_of Technique.Plain (branch_to 8) 9 post_edges ≡ Ok tt
  pub branch_out : verdict_of Technique.Plain (branch_to 9) 9 post_edges ≡ Err (fault Refusal.BranchTarget (Place.Address 0))
  pub branch_would_stop :
      ending_by (Ok tt) (trace Technique.Plain 9 (Call.Step ∷ []) (fresh (registers_from r 0 32) (branch_to 9) []))
      ≡ Err (Halt.Stopped Stop.Next)
  pub jump_accepted : verdict_of Technique.Plain (post_code ++ 7 ∷ []) 9 post_edges ≡ Ok tt
  pub jump_stops :
      ending_by (Ok tt) (trace Technique.Plain 9 outward_calls (fresh (registers_from r 0 32) post_code (7 ∷ [])))
      ≡ Err (Halt.Stopped Stop.Next)
  pub stands_at_jump : (after_all Technique.Plain 9 outward_calls (fresh (registers_from r 0 32) post_code (7 ∷ []))).state.pc ≡ 6

-- a routine at 3, called from 0 and from 1: it adds one to r5 and returns
abbrev pub shared_routine : List ℕ
shared_routine = map encode_of (Instr.Call 3 ∷ Instr.Call 3 ∷ Instr.Illegal ∷ Instr.Addi 5 5 1 ∷ Instr.Ret ∷ Instr.Illegal ∷ [])

-- within the first call the bus writes to r5 and tries r1; then to the return; then on to the end
abbrev pub first_calls : List Call
first_calls = Call.Step ∷ Call.WriteRegister 5 4 ∷ Call.WriteRegister 1 4 ∷ Call.Run 2 ∷ []

abbrev pub second_calls : List Call
second_calls = first_calls ++ Call.WriteRegister 31 1 ∷ Call.Run 100 ∷ []

-- What K8 is about, from registers r 0 to r 31: the routine is accepted, its first return leads to 1 and its second to 2, and in between
-- the word after the first call is pending.
pub record ReturnsShown (t : Technique) (r : ℕ → ℕ) : Type 0 where
  pub accepted : verdict_of t shared_routine 6 [] ≡ Ok tt
  pub pending : pending_from shared_routine [] (trace t 6 (Call.Step ∷ []) (fresh (registers_from r 0 32) shared_routine [])) ≡ 1 ∷ []
  pub first_home : (after_all t 6 first_calls (fresh (registers_from r 0 32) shared_routine [])).state.pc ≡ 1
  pub second_home : (after_all t 6 second_calls (fresh (registers_from r 0 32) shared_routine [])).state.pc ≡ 2
  pub steps : steps_made (trace t 6 second_calls (fresh (registers_from r 0 32) shared_routine [])) ≡ 6
  pub none_left : pending_from shared_routine [] (trace t 6 second_calls (fresh (registers_from r 0 32) shared_routine [])) ≡ []

-- a call of itself, and a ret that nothing called: accepted, and with stop 5 after 128 steps and stop 6 after none
abbrev pub calls_itself : List ℕ
calls_itself = map encode_of (Instr.Call 0 ∷ Instr.Illegal ∷ [])

abbrev pub only_returns : List ℕ
only_returns = map encode_of (Instr.Ret ∷ Instr.Illegal ∷ [])

pub record StackStopsShown (t : Technique) (r : ℕ → ℕ) : Type 0 where
  pub full_accepted : verdict_of t calls_itself 2 [] ≡ Ok tt
  pub full_steps : steps_made (trace t 2 (Call.Run 200 ∷ []) (fresh (registers_from r 0 32) calls_itself [])) ≡ 128
  pub full :
      ending_by (Ok tt) (trace t 2 (Call.Run 200 ∷ []) (fresh (registers_from r 0 32) calls_itself [])) ≡ Err (Halt.Stopped Stop.Full)
  pub empty_accepted : verdict_of t only_returns 2 [] ≡ Ok tt
  pub empty :
      ending_by (Ok tt) (trace t 2 (Call.Run 200 ∷ []) (fresh (registers_from r 0 32) only_returns [])) ≡ Err (Halt.Stopped Stop.Empty)
