-- "The initial insertion mode": which mode a doctype gives the document.
use Rattle.std.specs.Prelude.{ℕ, Bool, true, false, not, List, [], ◌∷◌, ◌&&◌, ◌||◌, ◌==◌, Option, Some, None, codes, map, option_map, if◌then◌else◌}
use Rattle.std.specs.Str.{bytes_eq}
use Rattle.std.specs.Char.{to_ascii_lowercase}
use Rattle.html5ever_interface.specs.Token.{DoctypeOf}
use Rattle.tree_construction.specs.Names.{is_among}
use Rattle.tree_construction.specs.declared.modes.QuirksMode.{QuirksMode}
use Rattle.tree_construction.specs.declared.modes.QuirksMode.TheVariants.{Quirks, LimitedQuirks, NoQuirks}

-- "The public identifier is set to" one of these
unfoldable pub quirks_public_ids : List (List ℕ)
quirks_public_ids =
    codes "-//w3o//dtd w3 html strict 3.0//en//" ∷ codes "-/w3c/dtd html 4.0 transitional/en" ∷ codes "html" ∷ []

-- "The system identifier is set to" this
unfoldable pub quirks_system_ids : List (List ℕ)
quirks_system_ids = codes "http://www.ibm.com/data/dtd/v11/ibmxhtml1-transitional.dtd" ∷ []

-- "The public identifier starts with" one of these
unfoldable pub quirks_beginnings : List (List ℕ)
quirks_beginnings =
    codes "+//silmaril//dtd html pro v0r11 19970101//" ∷ codes "-//as//dtd html 3.0 aswedit + extensions//"
    ∷ codes "-//advasoft ltd//dtd html 3.0 aswedit + extensions//" ∷ codes "-//ietf//dtd html 2.0 level 1//" ∷ codes "-//ietf//dtd html 2.0 level 2//"
    ∷ codes "-//ietf//dtd html 2.0 strict level 1//" ∷ codes "-//ietf//dtd html 2.0 strict level 2//" ∷ codes "-//ietf//dtd html 2.0 strict//"
    ∷ codes "-//ietf//dtd html 2.0//" ∷ codes "-//ietf//dtd html 2.1e//" ∷ codes "-//ietf//dtd html 3.0//" ∷ codes "-//ietf//dtd html 3.2 final//"
    ∷ codes "-//ietf//dtd html 3.2//" ∷ codes "-//ietf//dtd html 3//" ∷ codes "-//ietf//dtd html level 0//" ∷ codes "-//ietf//dtd html level 1//"
    ∷ codes "-//ietf//dtd html level 2//" ∷ codes "-//ietf//dtd html level 3//" ∷ codes "-//ietf//dtd html strict level 0//"
    ∷ codes "-//ietf//dtd html strict level 1//" ∷ codes "-//ietf//dtd html strict level 2//" ∷ codes "-//ietf//dtd html strict level 3//"
    ∷ codes "-//ietf//dtd html strict//" ∷ codes "-//ietf//dtd html//" ∷ codes "-//metrius//dtd metrius presentational//"
    ∷ codes "-//microsoft//dtd internet explorer 2.0 html strict//" ∷ codes "-//microsoft//dtd internet explorer 2.0 html//"
    ∷ codes "-//microsoft//dtd internet explorer 2.0 tables//" ∷ codes "-//microsoft//dtd internet explorer 3.0 html strict//"
    ∷ codes "-//microsoft//dtd internet explorer 3.0 html//" ∷ codes "-//microsoft//dtd internet explorer 3.0 tables//"
    ∷ codes "-//netscape comm. corp.//dtd html//" ∷ codes "-//netscape comm. corp.//dtd strict html//"
    ∷ codes "-//o'reilly and associates//dtd html 2.0//" ∷ codes "-//o'reilly and associates//dtd html extended 1.0//"
    ∷ codes "-//o'reilly and associates//dtd html extended relaxed 1.0//" ∷ codes "-//sq//dtd html 2.0 hotmetal + extensions//"
    ∷ codes "-//softquad software//dtd hotmetal pro 6.0::19990601::extensions to html 4.0//"
    ∷ codes "-//softquad//dtd hotmetal pro 4.0::19971010::extensions to html 4.0//" ∷ codes "-//spyglass//dtd html 2.0 extended//"
    ∷ codes "-//sun microsystems corp.//dtd hotjava html//" ∷ codes "-//sun microsystems corp.//dtd hotjava strict html//"
    ∷ codes "-//w3c//dtd html 3 1995-03-24//" ∷ codes "-//w3c//dtd html 3.2 draft//" ∷ codes "-//w3c//dtd html 3.2 final//"
    ∷ codes "-//w3c//dtd html 3.2//" ∷ codes "-//w3c//dtd html 3.2s draft//" ∷ codes "-//w3c//dtd html 4.0 frameset//"
    ∷ codes "-//w3c//dtd html 4.0 transitional//" ∷ codes "-//w3c//dtd html experimental 19960712//" ∷ codes "-//w3c//dtd html experimental 970421//"
    ∷ codes "-//w3c//dtd w3 html//" ∷ codes "-//w3o//dtd w3 html 3.0//" ∷ codes "-//webtechs//dtd mozilla html 2.0//"
    ∷ codes "-//webtechs//dtd mozilla html//" ∷ []

-- with these a missing system identifier means quirks mode, and one that is there limited-quirks mode
unfoldable pub html_4_01_beginnings : List (List ℕ)
html_4_01_beginnings =
    codes "-//w3c//dtd html 4.01 frameset//" ∷ codes "-//w3c//dtd html 4.01 transitional//" ∷ []

unfoldable pub limited_quirks_beginnings : List (List ℕ)
limited_quirks_beginnings =
    codes "-//w3c//dtd xhtml 1.0 frameset//" ∷ codes "-//w3c//dtd xhtml 1.0 transitional//" ∷ []

unfoldable pub begins_with : List ℕ → List ℕ → Bool
begins_with [] text = true
begins_with (c ∷ more) [] = false
begins_with (c ∷ more) (d ∷ text) = (c == d) && begins_with more text

unfoldable pub begins_with_one : List (List ℕ) → List ℕ → Bool
begins_with_one [] text = false
begins_with_one (beginning ∷ more) text = begins_with beginning text || begins_with_one more text

-- identifiers are compared "ASCII case-insensitively"; a missing one is none of these
abbrev pub passes : (List ℕ → Bool) → Option (List ℕ) → Bool
passes test None = false
passes test (Some text) = test (map to_ascii_lowercase text)

abbrev pub is_missing : Option (List ℕ) → Bool
is_missing None = true
is_missing (Some text) = false

abbrev pub is_named_html : Option (List ℕ) → Bool
is_named_html None = false
is_named_html (Some name) = bytes_eq name (codes "html")

unfoldable pub means_quirks : DoctypeOf → Bool
means_quirks doctype =
    doctype.force_quirks
    || not (is_named_html doctype.name)
    || passes (λ id. is_among id quirks_public_ids) doctype.public_id
    || passes (λ id. is_among id quirks_system_ids) doctype.system_id
    || passes (begins_with_one quirks_beginnings) doctype.public_id
    || (is_missing doctype.system_id && passes (begins_with_one html_4_01_beginnings) doctype.public_id)

unfoldable pub means_limited_quirks : DoctypeOf → Bool
means_limited_quirks doctype =
    passes (begins_with_one limited_quirks_beginnings) doctype.public_id
    || (not (is_missing doctype.system_id) && passes (begins_with_one html_4_01_beginnings) doctype.public_id)

abbrev pub quirks_mode_of : DoctypeOf → QuirksMode
quirks_mode_of doctype = if means_quirks doctype then Quirks else if means_limited_quirks doctype then LimitedQuirks else NoQuirks

-- a doctype that is no parse error: its name is `html`, it has no public identifier, and no system identifier or `about:legacy-compat`
abbrev pub is_allowed_system : Option (List ℕ) → Bool
is_allowed_system None = true
is_allowed_system (Some id) = bytes_eq id (codes "about:legacy-compat")

abbrev pub is_allowed : DoctypeOf → Bool
is_allowed doctype = is_named_html doctype.name && is_missing doctype.public_id && is_allowed_system doctype.system_id
