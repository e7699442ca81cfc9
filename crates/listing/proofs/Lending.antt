-- Once what was lent is given back, its owners have what was left behind its references.
use Rattle.std.proofs.Common.{◌≡◌, List, ℕ, sym, refl, ◌∙◌}
use Rattle.core_answer.specs.declared.lent.Lent.{Lent}
use Rattle.listing.specs.Filling.{Fills, left}
use Rattle.listing.specs.Promises.{SameLent, lent_left}
use Rattle.listing.specs.declared.Filled.{Filled}

pub lent_itself : (l : Lent) → SameLent l l
lent_itself l = record { tables = refl; saved = refl; frames = refl; store = refl; answer = refl; long = refl }

pub lent_on : {a b c : Lent} → SameLent a b → SameLent b c → SameLent a c
lent_on p q =
    record {
      tables = q.tables ∙ p.tables;
      saved = q.saved ∙ p.saved;
      frames = q.frames ∙ p.frames;
      store = q.store ∙ p.store;
      answer = q.answer ∙ p.answer;
      long = q.long ∙ p.long;
    }

pub given_back : {before after : Lent} {t s f o b trace out : List ℕ} {r : Filled} {g : Fills} → SameLent before after
    → lent_left r trace after out ≡ g
    → (before.tables.ghost_name ≡ after.tables.ghost_name → t ≡ after.tables.now)
    → (before.saved.ghost_name ≡ after.saved.ghost_name → s ≡ after.saved.now)
    → (before.frames.ghost_name ≡ after.frames.ghost_name → f ≡ after.frames.now)
    → (before.store.ghost_name ≡ after.store.ghost_name → o ≡ after.store.now)
    → (before.answer.ghost_name ≡ after.answer.ghost_name → b ≡ after.answer.now)
    → left r trace t s f o b out ≡ g
given_back same e t s f o b =
    rw (t (sym same.tables), s (sym same.saved), f (sym same.frames), o (sym same.store), b (sym same.answer)) e
