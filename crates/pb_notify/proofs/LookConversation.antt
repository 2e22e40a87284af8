-- What a look at a cell has asked at each of its steps.
use Rattle.std.proofs.Common.{◌≡◌, ℕ, suc, ◌+◌, ◌<◌, Bool, cond, List, [], ◌∷◌, ◌++◌, Option, refl, sym, ap, subst, ◌∙◌, arith, append_assoc, nat_lt}
use Rattle.pb_notify.specs.Words.{Cell, Ts, Step, Answer, CanAnswer, read_step, Received, told}
use Rattle.pb_notify.specs.declared.look.TheConstants.{MAX_LOCKED}
use Rattle.pb_notify.specs.declared.look.Look.{Look}
use Rattle.pb_notify.specs.declared.look.Looked.{Looked}
use Rattle.pb_notify.specs.Looks.{look_step, look_after, locked_after}
use Rattle.pb_notify.specs.Forms.{IsRound, cleared, settled, AreRounds, one_more, IsLooked}

-- a read at any timestamp has the answers of a read
as_read : (s : Ts) (x : Cell) (at : Option Ts) (a : Answer) → CanAnswer (read_step s x at) a → CanAnswer (Step.Read s x) a
as_read s x at a can = grind arith

module _ (s : Ts) (x : Cell) (at : Option Ts) (m : ℕ) (base : List Received) where
  -- rounds, and the beginning of one more
  pub record IsIn (n : ℕ) (said part : List Received) : Type 0 where
    pub met : ℕ
    pub before : List Received
    pub rounds : AreRounds s x at m base met before
    pub count : n ≡ suc met
    pub said_is : said ≡ before ++ part

  -- the conversation at a step of a look
  abbrev pub InLook : Look → ℕ → List Received → Type 0
  InLook Look.Reading n said = AreRounds s x at m base n said
  InLook (Look.Clearing primary) n said = (t : Ts) × IsIn n said (told (read_step s x at) (Answer.Locked t primary) ∷ [])
  InLook (Look.Settling primary) n said = (t : Ts) × IsIn n said (told (read_step s x at) (Answer.Locked t primary) ∷ told (Step.Clear x) Answer.Waits ∷ [])
  InLook Look.ClearingAgain n said = (t : Ts) × (primary : Cell) × (a : Answer) × CanAnswer (Step.Settle primary) a × IsIn n said (told (read_step s x at) (Answer.Locked t primary) ∷ told (Step.Clear x) Answer.Waits ∷ told (Step.Settle primary) a ∷ [])

  pub record IsBlocked (n : ℕ) (said : List Received) : Type 0 where
    pub met : ℕ
    pub before : List Received
    pub rounds : AreRounds s x at m base met before
    pub last : suc met ≡ MAX_LOCKED
    pub t : Ts
    pub primary : Cell
    pub said_is : said ≡ before ++ told (read_step s x at) (Answer.Locked t primary) ∷ []

  -- a look that was answered so
  abbrev pub LooksAs : ℕ → List Received → Answer → Type 0
  LooksAs n said a = (look : IsLooked s x at m base n said) × (look.answer ≡ a)

  -- and after an answer
  abbrev pub AfterLook : Looked → ℕ → List Received → Type 0
  AfterLook (Looked.On look) n said = InLook look n said
  AfterLook (Looked.Tells a) n said = LooksAs n said a
  AfterLook Looked.Blocks n said = IsBlocked n said

  one_longer : (n : ℕ) (said part : List Received) (r : Received) → IsIn n said part → IsIn n (said ++ r ∷ []) (part ++ r ∷ [])
  one_longer n said part r i = record { met = i.met; before = i.before; rounds = i.rounds; count = i.count; said_is = ap (λ l. l ++ r ∷ []) i.said_is ∙ append_assoc i.before part (r ∷ []) }

  -- a round is done
  round_done : (n : ℕ) (said part : List Received) (r : Received) → IsIn n said part → IsRound s x at (part ++ r ∷ []) → AreRounds s x at m base n (said ++ r ∷ [])
  round_done n said part r i round =
      subst (λ k. AreRounds s x at m base k (said ++ r ∷ [])) (sym i.count)
      (subst (λ l. AreRounds s x at m base (suc i.met) l) (sym (ap (λ l. l ++ r ∷ []) i.said_is ∙ append_assoc i.before part (r ∷ []))) (one_more i.met i.before (part ++ r ∷ []) i.rounds round))

  met_lock : (n : ℕ) (said : List Received) (t : Ts) (primary : Cell) (b : Bool) → nat_lt (n + 1) MAX_LOCKED ≡ b → n < MAX_LOCKED → AreRounds s x at m base n said
      → AfterLook (cond b (Looked.On (Look.Clearing primary)) Looked.Blocks) (n + 1) (said ++ told (read_step s x at) (Answer.Locked t primary) ∷ [])
  met_lock n said t primary b e few rounds = grind arith

  then_read : (n : ℕ) (said : List Received) → AreRounds s x at m base n said → LooksAs n (said ++ told (read_step s x at) Answer.Absent ∷ []) Answer.Absent
  then_read n said rounds = (record { before = said; rounds = rounds; answer = Answer.Absent; held = tt; said_is = refl }, refl)

  read_more : (n : ℕ) (said : List Received) (a : Answer) → AreRounds s x at m base n said → CanAnswer (Step.Read s x) a → n < MAX_LOCKED
      → AfterLook (look_after n Look.Reading a) (locked_after n Look.Reading a) (said ++ told (read_step s x at) a ∷ [])
  read_more n said (Answer.Locked t primary) rounds can few = met_lock n said t primary (nat_lt (n + 1) MAX_LOCKED) refl few rounds
  read_more n said (Answer.Found start commit content) rounds can few = (record { before = said; rounds = rounds; answer = Answer.Found start commit content; held = tt; said_is = refl }, refl)
  read_more n said Answer.Absent rounds can few = then_read n said rounds
  read_more n said _ rounds can few = absurd can

  clear_more : (n : ℕ) (said : List Received) (primary : Cell) (a : Answer) → InLook (Look.Clearing primary) n said → CanAnswer (Step.Clear x) a
      → AfterLook (look_after n (Look.Clearing primary) a) n (said ++ told (Step.Clear x) a ∷ [])
  clear_more n said primary Answer.Waits i can = (i.0, one_longer n said _ (told (Step.Clear x) Answer.Waits) i.1)
  clear_more n said primary Answer.Absent i can = round_done n said _ (told (Step.Clear x) Answer.Absent) i.1 (cleared i.0 primary Answer.Absent can (λ e. cc))
  clear_more n said primary (Answer.CommittedAt c) i can = round_done n said _ (told (Step.Clear x) (Answer.CommittedAt c)) i.1 (cleared i.0 primary (Answer.CommittedAt c) can (λ e. cc))
  clear_more n said primary Answer.RolledBack i can = round_done n said _ (told (Step.Clear x) Answer.RolledBack) i.1 (cleared i.0 primary Answer.RolledBack can (λ e. cc))
  clear_more n said primary _ i can = absurd can

  pub look_more : (look : Look) (n : ℕ) (said : List Received) (t : Step) (a : Answer) → InLook look n said → look_step s x at look ≡ t → CanAnswer t a → n < MAX_LOCKED
      → AfterLook (look_after n look a) (locked_after n look a) (said ++ told t a ∷ [])
  look_more Look.Reading n said t a i e can few = grind (arith, read_more, as_read)
  look_more (Look.Clearing primary) n said t a i e can few = grind (arith, clear_more)
  look_more (Look.Settling primary) n said t a i e can few =
      subst (λ u. CanAnswer u a → AfterLook (Looked.On Look.ClearingAgain) n (said ++ told u a ∷ [])) e (λ k. (i.0, primary, a, k, one_longer n said _ (told (Step.Settle primary) a) i.1)) can
  look_more Look.ClearingAgain n said t a i e can few =
      subst (λ u. CanAnswer u a → AfterLook (Looked.On Look.Reading) n (said ++ told u a ∷ [])) e
      (λ k. round_done n said _ (told (Step.Clear x) a) i.4 (settled i.0 i.1 i.2 a i.3 k)) can

  -- a look can be ended without another lock
  pub record CanEnd (n : ℕ) (said : List Received) : Type 0 where
    pub next : Received
    pub rest : List Received
    pub look : LooksAs n (said ++ next ∷ rest) Answer.Absent

  after_one : (n : ℕ) (said : List Received) (r : Received) → AreRounds s x at m base n (said ++ r ∷ []) → CanEnd n said
  after_one n said r rounds =
      record { next = r; rest = told (read_step s x at) Answer.Absent ∷ []; look = subst (λ l. LooksAs n l Answer.Absent) (append_assoc said (r ∷ []) (told (read_step s x at) Answer.Absent ∷ [])) (then_read n (said ++ r ∷ []) rounds) }

  pub look_can_end : (look : Look) (n : ℕ) (said : List Received) → InLook look n said → CanEnd n said
  look_can_end Look.Reading n said i = record { next = told (read_step s x at) Answer.Absent; rest = []; look = then_read n said i }
  look_can_end (Look.Clearing primary) n said i = after_one n said (told (Step.Clear x) Answer.Absent) (round_done n said _ (told (Step.Clear x) Answer.Absent) i.1 (cleared i.0 primary Answer.Absent tt (λ e. cc)))
  look_can_end (Look.Settling primary) n said i =
      let a = told (Step.Settle primary) Answer.Absent in
      let b = told (Step.Clear x) Answer.Absent in
      let longer = one_longer n said _ a i.1 in
      let done = after_one n (said ++ a ∷ []) b (round_done n (said ++ a ∷ []) _ b longer (settled i.0 primary Answer.Absent Answer.Absent tt tt)) in
      record { next = a; rest = done.next ∷ done.rest; look = subst (λ l. LooksAs n l Answer.Absent) (append_assoc said (a ∷ []) (done.next ∷ done.rest)) done.look }
  look_can_end Look.ClearingAgain n said i = after_one n said (told (Step.Clear x) Answer.Absent) (round_done n said _ (told (Step.Clear x) Answer.Absent) i.4 (settled i.0 i.1 i.2 Answer.Absent i.3 tt))
