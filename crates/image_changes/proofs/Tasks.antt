-- Tasks that have grown.
use Rattle.std.proofs.Common.{◌≡◌, ◌∙◌, ◌≤◌, ℕ, Bool, List, [], ◌∷◌, ◌++◌, length, length-append, Option, Some, None, refl, sym, ap, arith}
use Rattle.std.specs.Option.{option_map}
use Rattle.std.proofs.lemmas.List.{append-nil}
use Rattle.model_text.specs.declared.pair.Pair.{Pair}
use Rattle.model_run.specs.FlowNodes.{IsFront}
use Rattle.model_run.specs.Requests.{SameRequest}
use Rattle.model_run.specs.declared.request.Request.{Request}
use Rattle.model_run.specs.declared.request.Request.TheVariants as request
use Rattle.model_run.specs.declared.request.OpenRequest.{OpenRequest}
use Rattle.delta_form.specs.After.{grown}

abbrev pub taken_of : Request → ℕ
taken_of (request.Task executor workspace folder env script status keep_out taken out) = taken
taken_of r = 0

abbrev pub out_of : Request → List ℕ
out_of (request.Task executor workspace folder env script status keep_out taken out) = out
out_of r = []

-- a front that has no less is the whole
front_all : (had out : List ℕ) → IsFront had out → length out ≤ length had → had ≡ out
front_all had out (more, is) fits = go more is
  where
    go : (more : List ℕ) → out ≡ had ++ more → had ≡ out
    go [] e = sym (append-nil had) ∙ sym e
    go (x ∷ xs) e = absurd (omega (arith, fits, ap length e, length-append had (x ∷ xs)))

-- tasks that are the same in each
task_is : (e e2 : ℕ) (w w2 f f2 : List ℕ) (v v2 : List Pair) (s s2 : List ℕ) (t t2 k k2 : Bool) (m m2 : ℕ) (o o2 : List ℕ)
    → e ≡ e2 → w ≡ w2 → f ≡ f2 → v ≡ v2 → s ≡ s2 → t ≡ t2 → k ≡ k2 → m ≡ m2 → o ≡ o2 → request.Task e w f v s t k m o ≡ request.Task e2 w2 f2 v2 s2 t2 k2 m2 o2
task_is e e2 w w2 f f2 v v2 s s2 t t2 k k2 m m2 o o2 a b c d g h i j l = cc

-- of a request that stood the output has only grown
pub output_grew : (stood item : Request) → SameRequest stood item → IsFront (out_of stood) (out_of item)
output_grew (request.Node a) (request.Node b) same = ([], refl)
output_grew (request.Node a) r same = absurd same
output_grew (request.Task e w f v s t k was had) (request.Task e2 w2 f2 v2 s2 t2 k2 taken out) same = same.7
output_grew (request.Task e w f v s t k was had) r same = absurd same
output_grew (request.Input a) (request.Input b) same = ([], refl)
output_grew (request.Input a) r same = absurd same

-- where no more was taken of it and nothing came to its output, it stands as it stood
pub stays : (stood item : Request) → SameRequest stood item → taken_of stood ≡ taken_of item → length (out_of item) ≤ length (out_of stood) → stood ≡ item
stays (request.Node a) (request.Node b) same taken fits = ap (λ (l : Option (List ℕ)). request.Node l) same
stays (request.Node a) r same taken fits = absurd same
stays (request.Task e w f v s t k was had) (request.Task e2 w2 f2 v2 s2 t2 k2 now out) same taken fits = task_is e e2 w w2 f f2 v v2 s s2 t t2 k k2 was now had out same.0 same.1 same.2 same.3 same.4 same.5 same.6 taken (front_all had out same.7 fits)
stays (request.Task e w f v s t k was had) r same taken fits = absurd same
stays (request.Input a) (request.Input b) same taken fits = ap (λ (i : List ℕ). request.Input i) same
stays (request.Input a) r same taken fits = absurd same

-- and where they are no tasks
pub other_stays : (stood item : Request) → SameRequest stood item
    → ((e : ℕ) (w f : List ℕ) (v : List Pair) (s : List ℕ) (t k : Bool) (m : ℕ) (o : List ℕ) (e2 : ℕ) (w2 f2 : List ℕ) (v2 : List Pair) (s2 : List ℕ) (t2 k2 : Bool) (m2 : ℕ) (o2 : List ℕ)
    → stood ≡ request.Task e w f v s t k m o → item ≡ request.Task e2 w2 f2 v2 s2 t2 k2 m2 o2 → ⊥) → stood ≡ item
other_stays (request.Node a) (request.Node b) same never = ap (λ (l : Option (List ℕ)). request.Node l) same
other_stays (request.Node a) r same never = absurd same
other_stays (request.Task e w f v s t k m o) (request.Task e2 w2 f2 v2 s2 t2 k2 m2 o2) same never = absurd (never e w f v s t k m o e2 w2 f2 v2 s2 t2 k2 m2 o2 refl refl)
other_stays (request.Task e w f v s t k m o) r same never = absurd same
other_stays (request.Input a) (request.Input b) same never = ap (λ (i : List ℕ). request.Input i) same
other_stays (request.Input a) r same never = absurd same

-- else it is what grows of the task that stood
pub grows : (stood item : Request) (added : List ℕ) → SameRequest stood item → ¬ (stood ≡ item) → out_of item ≡ out_of stood ++ added → grown (taken_of item) added stood ≡ Some item
grows (request.Node a) (request.Node b) added same differs is = absurd (differs (ap (λ (l : Option (List ℕ)). request.Node l) same))
grows (request.Node a) r added same differs is = absurd same
grows (request.Task e w f v s t k was had) (request.Task e2 w2 f2 v2 s2 t2 k2 taken out) added same differs is =
    ap (λ (r : Request). Some r) (task_is e e2 w w2 f f2 v v2 s s2 t t2 k k2 taken taken (had ++ added) out same.0 same.1 same.2 same.3 same.4 same.5 same.6 refl (sym is))
grows (request.Task e w f v s t k was had) r added same differs is = absurd same
grows (request.Input a) (request.Input b) added same differs is = absurd (differs (ap (λ (i : List ℕ). request.Input i) same))
grows (request.Input a) r added same differs is = absurd same

pub out_grown : (stood item : Request) (taken : ℕ) (added : List ℕ) → grown taken added stood ≡ Some item → out_of item ≡ out_of stood ++ added
out_grown (request.Task e w f v s t k was had) item taken added is =
    let same : request.Task e w f v s t k taken (had ++ added) ≡ item = cc in
    ap out_of (sym same)
out_grown r item taken added is = absurd cc

pub taken_grown : (stood item : Request) (taken : ℕ) (added : List ℕ) → grown taken added stood ≡ Some item → taken_of item ≡ taken
taken_grown (request.Task e w f v s t k was had) item taken added is =
    let same : request.Task e w f v s t k taken (had ++ added) ≡ item = cc in
    ap taken_of (sym same)
taken_grown r item taken added is = absurd cc

-- what grows is of the thread that it was of, and its task grows
pub growth : (stood item : OpenRequest) (taken : ℕ) (added : List ℕ) (o : Option Request) → grown taken added stood.request ≡ o → option_map (λ q. Some (record stood { request = q })) o ≡ Some (Some item)
    → (stood.thread ≡ item.thread) × (grown taken added stood.request ≡ Some item.request)
growth stood item taken added None is made = absurd cc
growth stood item taken added (Some q) is made =
    let same : record stood { request = q } ≡ item = cc in
    (ap (λ (r : OpenRequest). r.thread) same, is ∙ ap (λ (r : OpenRequest). Some r.request) same)
