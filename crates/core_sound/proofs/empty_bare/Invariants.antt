-- The loop's invariant: what is gathered is 0 where, and only where, each Empty domain passed is bare.
use Rattle.std.proofs.Common.{◌≡◌, ◌+◌}
use Rattle.core_tables.specs.Image.{word_at, domains_at}
use Rattle.core_sound.specs.Told.{Tells, Each, Bare}
use Rattle.core_sound.proofs.empty_bare.Given as goal

abbrev pub invariant-loop-d : goal.invariant-loop-d
invariant-loop-d l = Tells (Each (λ k. word_at l.tables (domains_at + k) ≡ 0 → Bare l.pages l.tables k) 0 l.d) l.any
