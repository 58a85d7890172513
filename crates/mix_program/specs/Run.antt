-- What a run of a script writes, line by line.
use Rattle.std.specs.Prelude.{ℕ, ◌+◌, ◌-◌, List, [], ◌∷◌, ◌++◌, length, nat_lt}
use Rattle.std.specs.Prelude.{Option, Some, None, Result, Ok, Err, codes, decimal, if◌then◌else◌}
use Rattle.mix_base.specs.declared.limits.Limits.{Limits}
use Rattle.mix_outside.specs.Lines.{Lines, End, Cut, Whole, lines_of}
use Rattle.mix_model.specs.declared.action.Action.{Action}
use Rattle.mix_model.specs.declared.action.Entry.{Entry}
use Rattle.mix_model.specs.declared.collection.Collection.{Collection}
use Rattle.mix_script.specs.Lines.{action_of}
use Rattle.mix_script.specs.declared.bad_line.BadLine.{BadLine}
use Rattle.mix_engine.specs.Mixer.{Mixer, start_of}
use Rattle.mix_engine.specs.Answers.{answer_to, state_after}
use Rattle.mix_engine.specs.Built.{is_built}
use Rattle.mix_program.specs.Output.{Written, before, lines_to}

-- nothing is recorded by what is built so far
abbrev pub ends_with : List ℕ → ℕ → Written
ends_with lines status = record { lines = lines; tape = []; status = status }

-- the script was done to its end
abbrev pub done : Written
done = ends_with [] 0

-- a line that isn't built yet
unfoldable pub not_built : ℕ → Written
not_built number = ends_with (codes "not built: line " ++ (decimal number ++ codes "\n")) 9

-- the script has more lines or bytes than a history takes
unfoldable pub full : Written
full = ends_with (codes "history full\n") 7

-- the next line has this number: all lines before it were done, and are the entries of the journal
abbrev pub next_line : List Entry → ℕ
next_line journal = length journal + 1

-- the bytes that the next line may take: those that are left, and none past the last line
abbrev pub room_for : Limits → List Entry → ℕ → ℕ
room_for limits journal room = if nat_lt (length journal) limits.turns then room else 0

-- the entry of the next line: pass 0 makes all entries, and numbers them by their places
abbrev pub entry_of : List Entry → Action → Entry
entry_of journal action = record {
  from = record { pass = 0; number = length journal };
  action = action;
}

-- what is written from an action on, where rest says what is written after it
abbrev pub turn : Mixer → List Entry → Result Action BadLine → (List Entry → Written) → Written
turn start journal (Err bad) rest = not_built (next_line journal)
turn start journal (Ok action) rest =
    if is_built (state_after start journal) action
    then before (lines_to (answer_to start journal action))
    (rest (journal ++ entry_of journal action ∷ []))
    else not_built (next_line journal)

-- what is written from a line on: what is over the limits ends the run, whatever it holds
abbrev pub run : Limits → Mixer → List Entry → ℕ → Lines → Written
run limits start journal room End = done
run limits start journal room (Cut line) =
    if nat_lt (room_for limits journal room) (length line) then full
    else not_built (next_line journal)
run limits start journal room (Whole line more) =
    if nat_lt (room_for limits journal room) (length line + 1) then full
    else turn start journal (action_of line)
    (λ longer. run limits start longer (room - (length line + 1)) more)

unfoldable pub no_collection : Written
no_collection = ends_with (codes "not built: collection\n") 9

abbrev pub run_from : Limits → List ℕ → Option Collection → Written
run_from limits script None = no_collection
run_from limits script (Some collection) =
    run limits (start_of collection) [] limits.bytes (lines_of script)
