mod SentenceLaws
