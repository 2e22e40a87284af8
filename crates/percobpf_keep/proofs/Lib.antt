mod SameTexts
mod OneManifest
