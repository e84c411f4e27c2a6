-- What one record more makes of the records of a build, and which build they tell of.
use Rattle.std.proofs.Common.{◌≡◌, ℕ, List, [], ◌∷◌, ◌++◌, refl, sym, ap, ◌∙◌, Option, Some}
use Rattle.std.specs.Prelude.{fold}
use Rattle.delta_records.specs.Lower.record_form.declared.record.EventRecord.{EventRecord}
use Rattle.image_form.specs.declared.image.Image.{Image}
use Rattle.model_run.specs.declared.event.Event.{Event}
use Rattle.model_run.specs.declared.event.Event.TheVariants as event
use Rattle.model_run.specs.declared.taken.Taken.TheVariants.{Accepted}
use Rattle.model_run.specs.State.{Setting}
use Rattle.model_run.specs.World.{Build, unbegun, answer_to, after_one, next_grant, world_in}
use Rattle.store_laws.proofs.Payloads.{told_image}
use Rattle.store_laws.specs.Store.{Told, image_from, record_at, Starts, FirstStarts, Follows, AllDue, IsStory, events_of, grant_of}

-- the records tell one more
pub tell_more : (before : Option Image) (records : List EventRecord) (payloads : List (List ℕ)) (r : EventRecord) (p : List ℕ) → Told before records payloads → record_at (image_from before payloads) p ≡ Some r
    → Told before (records ++ r ∷ []) (payloads ++ p ∷ [])
tell_more before [] [] r p all one = (one, tt)
tell_more before (q ∷ qs) (x ∷ xs) r p all one = (all.0, tell_more (Some q.image) qs xs r p all.1 (ap (λ (o : Option Image). record_at (image_from o xs) p) (sym (told_image before x q all.0)) ∙ one))
tell_more before [] (x ∷ xs) r p all one = absurd all
tell_more before (q ∷ qs) [] r p all one = absurd all

pub events-more : (records : List EventRecord) (r : EventRecord) → events_of (records ++ r ∷ []) ≡ events_of records ++ r.event ∷ []
events-more [] r = refl
events-more (q ∷ qs) r = ap (λ (es : List Event). q.event ∷ es) (events-more qs r)

-- records that these payloads and one more tell, taken apart
pub record Apart (before : Option Image) (records : List EventRecord) (payloads : List (List ℕ)) (p : List ℕ) : Type 0 where
  pub front : List EventRecord
  pub last : EventRecord
  pub are : records ≡ front ++ last ∷ []
  pub spelled : Told before front payloads
  pub tells : record_at (image_from before payloads) p ≡ Some last

pub apart : (before : Option Image) (records : List EventRecord) (payloads : List (List ℕ)) (p : List ℕ) → Told before records (payloads ++ p ∷ []) → Apart before records payloads p
apart before (r ∷ []) [] p all = record { front = []; last = r; are = refl; spelled = tt; tells = all.0 }
apart before (r ∷ (q ∷ qs)) [] p all = absurd all.1
apart before [] [] p all = absurd all
apart before [] (x ∷ xs) p all = absurd all
apart before (r ∷ rs) (x ∷ xs) p all =
    let more = apart (Some r.image) rs xs p all.1 in
    record {
      front = r ∷ more.front;
      last = more.last;
      are = ap (λ (l : List EventRecord). r ∷ l) more.are;
      spelled = (all.0, more.spelled);
      tells = ap (λ (o : Option Image). record_at (image_from o xs) p) (told_image before x r all.0) ∙ more.tells;
    }

-- the world of one event more
pub world-more : (s : Setting) (b : Build) (es : List Event) (e : Event) → fold (after_one s) b (es ++ e ∷ []) ≡ after_one s (fold (after_one s) b es) e
world-more s b [] e = refl
world-more s b (x ∷ xs) e = world-more s (after_one s b x) xs e

-- where a grant was due, and where none was, one event more
pub due_more : (s : Setting) (b : Build) (records : List EventRecord) (r : EventRecord) → AllDue s b records → next_grant s (fold (after_one s) b (events_of records)) ≡ grant_of r.event → AllDue s b (records ++ r ∷ [])
due_more s b [] r so_far is = (is, tt)
due_more s b (q ∷ qs) r so_far is = (so_far.0, due_more s (after_one s b q.event) qs r so_far.1 is)

-- a first event is a `Start` where it is accepted
abbrev pub IsStart : Event → Type 0
IsStart (event.Start script agents) = Unit {0}
IsStart e = ⊥

module _ (image_of : Setting → Build → Image) (s : Setting) where
  pub follows_more : (b : Build) (records : List EventRecord) (r : EventRecord) → Follows image_of s b records → answer_to s (fold (after_one s) b (events_of records)) r.event ≡ Accepted
      → r.image ≡ image_of s (after_one s (fold (after_one s) b (events_of records)) r.event) → Follows image_of s b (records ++ r ∷ [])
  follows_more b [] r so_far accepted image = (accepted, image, tt)
  follows_more b (q ∷ qs) r so_far accepted image = (so_far.0, so_far.1, follows_more (after_one s b q.event) qs r so_far.2 accepted image)

  -- the last of them
  pub record LastFollows (b : Build) (records : List EventRecord) (r : EventRecord) : Type 0 where
    pub front : Follows image_of s b records
    pub accepted : answer_to s (fold (after_one s) b (events_of records)) r.event ≡ Accepted
    pub image : r.image ≡ image_of s (after_one s (fold (after_one s) b (events_of records)) r.event)

  pub last_follows : (b : Build) (records : List EventRecord) (r : EventRecord) → Follows image_of s b (records ++ r ∷ []) → LastFollows b records r
  last_follows b [] r follows = record { front = tt; accepted = follows.0; image = follows.1 }
  last_follows b (q ∷ qs) r follows =
      let more = last_follows (after_one s b q.event) qs r follows.2 in
      record { front = (follows.0, follows.1, more.front); accepted = more.accepted; image = more.image }

  first_front : (records : List EventRecord) (r : EventRecord) → FirstStarts s (records ++ r ∷ []) → FirstStarts s records
  first_front [] r starts = tt
  first_front (q ∷ qs) r starts = starts

  pub story_front : (records : List EventRecord) (r : EventRecord) → IsStory image_of s (records ++ r ∷ []) → IsStory image_of s records
  story_front records r story = record { starts = first_front records r story.starts; follows = (last_follows unbegun records r story.follows).front }

  -- one record more, whose event is a `Start` of this setting where it is the first
  pub story_more : (records : List EventRecord) (r : EventRecord) → IsStory image_of s records → (records ≡ [] → Starts s r.event) → answer_to s (world_in s (events_of records)) r.event ≡ Accepted
      → r.image ≡ image_of s (after_one s (world_in s (events_of records)) r.event) → IsStory image_of s (records ++ r ∷ [])
  story_more records r story first accepted image = record {
    starts = starts records story.starts first;
    follows = follows_more unbegun records r story.follows accepted image;
  }
    where
      starts : (qs : List EventRecord) → FirstStarts s qs → (qs ≡ [] → Starts s r.event) → FirstStarts s (qs ++ r ∷ [])
      starts [] before first = first refl
      starts (q ∷ qs) before first = before
