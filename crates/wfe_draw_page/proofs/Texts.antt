-- How the pieces of a page make its text.
use Rattle.std.proofs.Common.{ℕ, ◌+◌, ◌*◌, length, ◌≡◌, ◌∙◌, List, [], ◌∷◌, ◌++◌, codes, refl, sym, ap, append-nil, append_assoc, lit<}
use Rattle.std.specs.Fmt.{decimal}
use Rattle.std.proofs.lemmas.Fmt.{decimal_digit}
use Rattle.wfe_draw_page.specs.Markup.{Content, Value, attributes_onto, numbers_onto, onto, value_onto}
use Rattle.wfe_draw_page.specs.Markup.Content.{Nothing, Words, Element}
use Rattle.wfe_draw_page.specs.Markup.Value.{Word, Numbers}
use Rattle.wfe_draw_page.specs.Pages.{Shown, all_text, bar_text, base_text, class_name, head_text, size_text, mark_content, marks_content, page_content, shown_text}

-- what comes after a text may be appended later

numbers-after : (ns xs ys : List ℕ) → numbers_onto ns xs ++ ys ≡ numbers_onto ns (xs ++ ys)
numbers-after [] xs ys = refl
numbers-after (n ∷ []) xs ys = append_assoc (decimal n) xs ys
numbers-after (n ∷ m ∷ more) xs ys =
    append_assoc (decimal n) (32 ∷ numbers_onto (m ∷ more) xs) ys ∙ ap (λ t. decimal n ++ (32 ∷ t)) (numbers-after (m ∷ more) xs ys)

value-after : (v : Value) (xs ys : List ℕ) → value_onto v xs ++ ys ≡ value_onto v (xs ++ ys)
value-after (Word w) xs ys = append_assoc w xs ys
value-after (Numbers ns) xs ys = numbers-after ns xs ys

attributes-after : (items : List (List ℕ × Value)) (xs ys : List ℕ) → attributes_onto items xs ++ ys ≡ attributes_onto items (xs ++ ys)
attributes-after [] xs ys = refl
attributes-after (a ∷ more) xs ys =
    ap (λ t. 32 ∷ t)
    (append_assoc a.0 (61 ∷ 34 ∷ value_onto a.1 (34 ∷ attributes_onto more xs)) ys
    ∙ ap (λ t. a.0 ++ (61 ∷ 34 ∷ t)) (value-after a.1 (34 ∷ attributes_onto more xs) ys ∙ ap (λ t. value_onto a.1 (34 ∷ t)) (attributes-after more xs ys)))

pub onto-after : (c : Content) (xs ys : List ℕ) → onto c xs ++ ys ≡ onto c (xs ++ ys)
onto-after Nothing xs ys = refl
onto-after (Words w rest) xs ys = append_assoc w (onto rest xs) ys ∙ ap (λ t. w ++ t) (onto-after rest xs ys)
onto-after (Element name attributes inner rest) xs ys =
    let closed : List ℕ = 60 ∷ 47 ∷ (name ++ (62 ∷ onto rest xs)) in
    let closes : closed ++ ys ≡ 60 ∷ 47 ∷ (name ++ (62 ∷ onto rest (xs ++ ys))) =
    ap (λ t. 60 ∷ 47 ∷ t) (append_assoc name (62 ∷ onto rest xs) ys ∙ ap (λ t. name ++ (62 ∷ t)) (onto-after rest xs ys)) in
    ap (λ t. 60 ∷ t)
    (append_assoc name (attributes_onto attributes (62 ∷ onto inner closed)) ys
    ∙ ap (λ t. name ++ t)
    (attributes-after attributes (62 ∷ onto inner closed) ys
    ∙ ap (λ t. attributes_onto attributes (62 ∷ t)) (onto-after inner closed ys ∙ ap (onto inner) closes)))

-- the texts of bars, one after another, are that of what holds them
pub all-after : (shown : List Shown) (after : List ℕ) → onto (marks_content shown) after ≡ all_text shown ++ after
unfolding mark_content shown_text
all-after [] after = refl
all-after (s ∷ more) after =
    ap (onto (mark_content s Nothing)) (all-after more after)
    ∙ sym (onto-after (mark_content s Nothing) [] (all_text more ++ after))
    ∙ sym (append_assoc (shown_text s) (all_text more) after)

-- one more
pub all-more : (shown : List Shown) (s : Shown) → all_text (shown ++ s ∷ []) ≡ all_text shown ++ shown_text s
all-more [] s = append-nil (shown_text s)
all-more (t ∷ more) s = ap (λ u. shown_text t ++ u) (all-more more s) ∙ sym (append_assoc (shown_text t) (all_text more) (shown_text s))

-- pieces in one grouping and in the other

three : (a b c s : List ℕ) → (a ++ (b ++ c)) ++ s ≡ a ++ (b ++ (c ++ s))
three a b c s = append_assoc a (b ++ c) s ∙ ap (λ t. a ++ t) (append_assoc b c s)

pair : (a b r s : List ℕ) → ((a ++ b) ++ r) ++ s ≡ a ++ (b ++ (r ++ s))
pair a b r s = append_assoc (a ++ b) r s ∙ append_assoc a b (r ++ s)

pairs-and : (a b c d e f g s : List ℕ) → ((a ++ b) ++ ((c ++ d) ++ ((e ++ f) ++ g))) ++ s ≡ a ++ (b ++ (c ++ (d ++ (e ++ (f ++ (g ++ s))))))
pairs-and a b c d e f g s =
    pair a b ((c ++ d) ++ ((e ++ f) ++ g)) s ∙ ap (λ t. a ++ (b ++ t)) (pair c d ((e ++ f) ++ g) s ∙ ap (λ t. c ++ (d ++ t)) (pair e f g s))

pairs : (a b c d e f g h s : List ℕ) → ((a ++ b) ++ ((c ++ d) ++ ((e ++ f) ++ (g ++ h)))) ++ s ≡ a ++ (b ++ (c ++ (d ++ (e ++ (f ++ (g ++ (h ++ s)))))))
pairs a b c d e f g h s = pairs-and a b c d e f (g ++ h) s ∙ ap (λ t. a ++ (b ++ (c ++ (d ++ (e ++ (f ++ t)))))) (append_assoc g h s)

in-row : (a b c d e f g : List ℕ) → (((((a ++ b) ++ c) ++ d) ++ e) ++ f) ++ g ≡ a ++ (b ++ (c ++ (d ++ (e ++ (f ++ g)))))
in-row a b c d e f g =
    append_assoc ((((a ++ b) ++ c) ++ d) ++ e) f g
    ∙ append_assoc (((a ++ b) ++ c) ++ d) e (f ++ g)
    ∙ append_assoc ((a ++ b) ++ c) d (e ++ (f ++ g))
    ∙ append_assoc (a ++ b) c (d ++ (e ++ (f ++ g)))
    ∙ append_assoc a b (c ++ (d ++ (e ++ (f ++ g))))

regroup-mark : (old A c B t C x D y E w F h G l H b I n J u K : List ℕ)
    → (((((old ++ (A ++ (c ++ B))) ++ t) ++ ((C ++ x) ++ ((D ++ y) ++ ((E ++ w) ++ (F ++ h))))) ++ ((G ++ l) ++ ((H ++ b) ++ ((I ++ n) ++ J)))) ++ u) ++ K
    ≡ old ++ (A ++ (c ++ (B ++ (t ++ (C ++ (x ++ (D ++ (y ++ (E ++ (w ++ (F ++ (h ++ (G ++ (l ++ (H ++ (b ++ (I ++ (n ++ (J ++ (u ++ K))))))))))))))))))))
regroup-mark old A c B t C x D y E w F h G l H b I n J u K =
    in-row old (A ++ (c ++ B)) t ((C ++ x) ++ ((D ++ y) ++ ((E ++ w) ++ (F ++ h)))) ((G ++ l) ++ ((H ++ b) ++ ((I ++ n) ++ J))) u K
    ∙ ap (λ s. old ++ s)
    (three A c B (t ++ (((C ++ x) ++ ((D ++ y) ++ ((E ++ w) ++ (F ++ h)))) ++ (((G ++ l) ++ ((H ++ b) ++ ((I ++ n) ++ J))) ++ (u ++ K))))
    ∙ ap (λ s. A ++ (c ++ (B ++ (t ++ s))))
    (pairs C x D y E w F h (((G ++ l) ++ ((H ++ b) ++ ((I ++ n) ++ J))) ++ (u ++ K))
    ∙ ap (λ s. C ++ (x ++ (D ++ (y ++ (E ++ (w ++ (F ++ (h ++ s)))))))) (pairs-and G l H b I n J (u ++ K))))

regroup-page : (A w B h C D E s F m G : List ℕ)
    → ((((A ++ w) ++ ((B ++ h) ++ ((C ++ w) ++ ((D ++ h) ++ E)))) ++ (s ++ F)) ++ m) ++ G
    ≡ A ++ (w ++ (B ++ (h ++ (C ++ (w ++ (D ++ (h ++ (E ++ (s ++ (F ++ (m ++ G)))))))))))
regroup-page A w B h C D E s F m G =
    let size : List ℕ = (A ++ w) ++ ((B ++ h) ++ ((C ++ w) ++ ((D ++ h) ++ E))) in
    append_assoc (size ++ (s ++ F)) m G
    ∙ append_assoc size (s ++ F) (m ++ G)
    ∙ ap (λ t. size ++ t) (append_assoc s F (m ++ G))
    ∙ pair A w ((B ++ h) ++ ((C ++ w) ++ ((D ++ h) ++ E))) (s ++ (F ++ (m ++ G)))
    ∙ ap (λ t. A ++ (w ++ t)) (pairs-and B h C w D h E (s ++ (F ++ (m ++ G))))

-- six pieces, one after another
pub six : (p0 p1 p2 p3 p4 p5 p6 a b c d e f : List ℕ) → p1 ≡ p0 ++ a → p2 ≡ p1 ++ b → p3 ≡ p2 ++ c → p4 ≡ p3 ++ d → p5 ≡ p4 ++ e → p6 ≡ p5 ++ f
    → p6 ≡ (((((p0 ++ a) ++ b) ++ c) ++ d) ++ e) ++ f
six p0 p1 p2 p3 p4 p5 p6 a b c d e f h1 h2 h3 h4 h5 h6 =
    h6 ∙ ap (λ t. t ++ f) (h5 ∙ ap (λ t. t ++ e) (h4 ∙ ap (λ t. t ++ d) (h3 ∙ ap (λ t. t ++ c) (h2 ∙ ap (λ t. t ++ b) h1))))

-- a mark, from its pieces
pub mark-text : (old new : List ℕ) (s : Shown) (wide : ℕ) → wide ≡ 6 * length s.label
    → new ≡ (((((old ++ head_text s.shade) ++ s.title) ++ bar_text s.frame) ++ base_text s.frame wide) ++ s.label) ++ codes "</text>\n</g>" → new ≡ old ++ shown_text s
unfolding mark_content shown_text head_text bar_text base_text
mark-text old new s wide e f =
    f
    ∙ ap (λ n. (((((old ++ head_text s.shade) ++ s.title) ++ bar_text s.frame) ++ base_text s.frame n) ++ s.label) ++ codes "</text>\n</g>") e
    ∙ regroup-mark old (codes "<g class=\"") (class_name s.shade) (codes "\"><title>") s.title (codes "</title><rect x=\"") (decimal s.frame.x) (codes "\" y=\"") (decimal s.frame.y)
    (codes "\" width=\"") (decimal s.frame.width) (codes "\" height=\"") (decimal s.frame.height) (codes "\"></rect><text x=\"") (decimal (s.frame.x + 3)) (codes "\" y=\"")
    (decimal (s.frame.y + 13)) (codes "\" textLength=\"") (decimal (6 * length s.label)) (codes "\">") s.label (codes "</text>\n</g>")

-- the text before the marks, from its pieces
pub begun-text : (p0 p1 p2 p3 z style tail : List ℕ) → p0 ≡ [] → p1 ≡ p0 ++ z → p2 ≡ p1 ++ style → p3 ≡ p2 ++ tail → p3 ≡ z ++ (style ++ tail)
begun-text p0 p1 p2 p3 z style tail h0 h1 h2 h3 =
    h3 ∙ ap (λ t. t ++ tail) (h2 ∙ ap (λ t. t ++ style) (h1 ∙ ap (λ t. t ++ z) h0)) ∙ append_assoc z style tail

-- the whole
pub page-text : (width height : ℕ) (style : List ℕ) (shown : List Shown) → ((size_text width height ++ (style ++ codes "</style>")) ++ all_text shown) ++ codes "</svg>\n" ≡ onto (page_content width height style shown) []
unfolding page_content size_text
page-text width height style shown =
    rw (all-after shown (codes "</svg>\n"), decimal_digit 0 (lit< tt))
    (regroup-page (codes "<svg xmlns=\"http://www.w3.org/2000/svg\" width=\"") (decimal width) (codes "\" height=\"") (decimal height) (codes "\" viewBox=\"0 0 ") (codes " ")
    (codes "\"><style>") style (codes "</style>") (all_text shown) (codes "</svg>\n"))
