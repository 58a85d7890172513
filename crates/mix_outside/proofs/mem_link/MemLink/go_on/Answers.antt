use Rattle.std.proofs.Common.{arith, length-drop}
use Rattle.mix_outside.proofs.mem_link.MemLink.go_on.Goals as goal

-- an item is left, so that not all were given yet
pub overflow_add-self : goal.overflow_add-self
overflow_add-self c =
    let there = rw (← c.self.view_is, c.in-Idle.is) at c.requires.there in
    omega (arith, there, length-drop c.self.inside.given c.self.inside.items)

-- it was idle no more often than items were given
pub overflow_add-self-in-Idle : goal.overflow_add-self-in-Idle
overflow_add-self-in-Idle c =
    let there = rw (← c.self.view_is, c.in-Idle.is) at c.requires.there in
    omega (arith, there, length-drop c.self.inside.given c.self.inside.items)

pub overflow_add-self-in-Text : goal.overflow_add-self-in-Text
overflow_add-self-in-Text c =
    let there = rw (← c.self.view_is, c.in-Text.is) at c.requires.there in
    omega (arith, there, length-drop c.self.inside.given c.self.inside.items)

pub overflow_add-self-in-Binary : goal.overflow_add-self-in-Binary
overflow_add-self-in-Binary c =
    let there = rw (← c.self.view_is, c.in-Binary.is) at c.requires.there in
    omega (arith, there, length-drop c.self.inside.given c.self.inside.items)
